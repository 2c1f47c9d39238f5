use Rattle.std.proofs.Common.{◌≡◌, ◌-◌, arith}
use Rattle.serde_json.specs.View.{view}
use Rattle.cad_syntax.specs.Types.{pure_type}
use Rattle.cad_json_read.specs.Judged.{known_of}
use Rattle.cad_json_read.proofs.Steps.{value_step}
use Rattle.cad_json_read.proofs.reading.+reads.Goals as goal

pub read_value-returns-in-Some : goal.read_value-returns-in-Some
read_value-returns-in-Some t c =
    let step = value_step (known_of c.args.shapes.now) c.args.left (c.args.left - 1) (pure_type c.args.want.now) (view c.args.json.now) c.in-Some.form (view c.in-Some.content.now) (omega (arith, c.if-left-eq0.false)) c.in-Some.ensures in
    rw step c.read_form.ensures
