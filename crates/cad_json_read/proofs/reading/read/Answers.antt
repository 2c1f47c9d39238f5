use Rattle.std.proofs.Common.{◌≡◌}
use Rattle.serde_json.specs.View.{view}
use Rattle.cad_syntax.specs.Types.{pure_type}
use Rattle.cad_json_read.proofs.Whole.{is_found, is_low, is_only}
use Rattle.cad_json_read.proofs.reading.read.Goals as goal

pub returns-clause-found : goal.returns-clause-found
returns-clause-found c = is_found c.args.shapes.now (pure_type c.args.want.now) (view c.args.json.now) c.read_whole.result c.read_whole.ensures

pub returns-clause-low : goal.returns-clause-low
returns-clause-low c = is_low c.args.shapes.now (pure_type c.args.want.now) (view c.args.json.now) c.read_whole.result c.read_whole.ensures

pub returns-clause-only : goal.returns-clause-only
returns-clause-only c = is_only c.args.shapes.now (pure_type c.args.want.now) (view c.args.json.now) c.read_whole.result c.read_whole.ensures
