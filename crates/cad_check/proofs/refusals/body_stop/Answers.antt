use Rattle.std.proofs.Common.{ap, rules}
use Rattle.std.specs.Prelude.{option_copied}
use Rattle.cad_declarations.specs.Views.{part_of, tables_of}
use Rattle.cad_pieces.specs.Views.{piece_body_of}
use Rattle.cad_check.proofs.Refused.{body_there}
use Rattle.cad_check.proofs.refusals.body_stop.Goals as goal

pub returns-in-Body : goal.returns-in-Body
returns-in-Body c =
    body_there (tables_of c.args.tables.now) c.args.phase c.args.inside.now (piece_body_of c.args.body.now) c.in-Body.owner (option_copied c.as_ref-own.result) c.in-Body.rules.items c.as_slice.result.now (part_of c.in-Body.body) c.part_stop.result
    (ap piece_body_of c.in-Body.is) c.part_stop.ensures (search rules) (search rules)
