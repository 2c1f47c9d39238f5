use Rattle.std.specs.Prelude.{option_copied}
use Rattle.cad_declarations.specs.Views.{part_of, tables_of}
use Rattle.cad_check.proofs.Refused.{body_told}
use Rattle.cad_check.proofs.refusals.part_stop.Goals as goal

pub returns : goal.returns
returns c =
    body_told (tables_of c.args.tables.now) c.args.phase c.args.inside.now (option_copied c.args.owner) c.args.rules.now (part_of c.args.body.now)
    c.in_ok-at.at c.placed.result c.in_ok-at.ensures c.placed.ensures
