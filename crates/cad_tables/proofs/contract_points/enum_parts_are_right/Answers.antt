use Rattle.cad_grammar.specs.Views.{enum_of}
use Rattle.cad_scopes.specs.Views.{scope_of}
use Rattle.cad_tables.proofs.Enums.{parts_right}
use Rattle.cad_tables.proofs.contract_points.enum_parts_are_right.Goals as goal

pub returns-then-raw : goal.returns-then-raw
returns-then-raw c =
    parts_right (scope_of c.args.scope) (enum_of c.args.x.now) c.in_ok-raw.raw c.in_ok-cases.cases c.as_slice.result.now
    c.in_ok-raw.ensures c.in_ok-cases.ensures c.as_slice.ensures.value c.if-raw.true
