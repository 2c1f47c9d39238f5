use Rattle.std.specs.Prelude.{option_and_then}
use Rattle.cad_capabilities.proofs.Acts.{carries_with}
use Rattle.cad_evaluation.specs.Arguments.{argument, identifier_in}
use Rattle.cad_rows.specs.Views.{pure_row, pure_tree}
use Rattle.cad_syntax.specs.declared.address.Domain.TheVariants as domain
use Rattle.cad_capabilities.specs.Views.{id_of}
use Rattle.cad_evaluation.specs.Capabilities.{becomes}
use Rattle.cad_capabilities.proofs.controllers.retarget_there.Goals as goal

pub returns-in-Some : goal.returns-in-Some
returns-in-Some c =
    carries_with pure_tree (λ name. becomes (λ x. record x { target = name }) (id_of c.args.id)) (option_and_then (identifier_in domain.Storage) (argument 0 (pure_row c.args.row.now))) c.in-Some.target.now c.args.state.now c.change_target.new.state c.change_target.result
    c.in-Some.ensures c.change_target.ensures
