use Rattle.std.specs.Prelude.{option_and_then}
use Rattle.cad_capabilities.proofs.Acts.{carries_with}
use Rattle.cad_evaluation.specs.Arguments.{argument, identifier_in}
use Rattle.cad_rows.specs.Views.{pure_row, pure_tree}
use Rattle.cad_syntax.specs.declared.address.Domain.TheVariants as domain
use Rattle.cad_capabilities.specs.Code.{exists_under}
use Rattle.cad_capabilities.proofs.getting.exists.Goals as goal

pub returns-in-Some : goal.returns-in-Some
returns-in-Some c =
    carries_with pure_tree (exists_under c.args.address) (option_and_then (identifier_in domain.Public) (argument 0 (pure_row c.args.row.now))) c.in-Some.name.now c.args.state.now c.args.state.now c.exists_under.result
    c.in-Some.ensures c.exists_under.ensures
