use Rattle.std.proofs.Common.{Bool, ap, sym, ◌∙◌}
use Rattle.std.specs.Prelude.{option_and_then}
use Rattle.cad_capabilities.proofs.Acts.{carries_same, carries_with}
use Rattle.cad_evaluation.specs.Arguments.{argument, identifier_in, with_identifier}
use Rattle.cad_rows.specs.Views.{pure_row, pure_tree}
use Rattle.cad_state.specs.Views.{state_over}
use Rattle.cad_syntax.specs.Types.{pure_type}
use Rattle.cad_syntax.specs.declared.address.Domain.TheVariants as domain
use Rattle.cad_values.specs.Shapes.{is_reference_type}
use Rattle.cad_world.specs.State.{guard}
use Rattle.cad_capabilities.specs.Code.{issued_to}
use Rattle.cad_capabilities.proofs.issuing.issue.Goals as goal

pub returns-in-Some : goal.returns-in-Some
returns-in-Some c =
    let type = pure_type c.args.lent.now in
    let row = pure_row c.args.row.now in
    let f = issued_to c.args.address type in
    let rest = with_identifier domain.Storage 0 row f in
    carries_same pure_tree (guard (is_reference_type type) rest) rest c.args.state.now c.issue_to.new.state c.issue_to.result
    (λ w. ap (λ (is : Bool). guard is rest (state_over w c.args.state.now)) (sym c.is_reference.ensures ∙ c.if-not-is_reference.false))
    (carries_with pure_tree f (option_and_then (identifier_in domain.Storage) (argument 0 row)) c.in-Some.target.now c.args.state.now c.issue_to.new.state c.issue_to.result
    c.in-Some.ensures c.issue_to.ensures)
