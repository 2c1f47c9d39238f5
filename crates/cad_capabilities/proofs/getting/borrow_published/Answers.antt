use Rattle.std.proofs.Common.{Bool, ap, sym, ◌∙◌}
use Rattle.std.specs.Prelude.{option_and_then}
use Rattle.cad_state.proofs.Finding.{find_same}
use Rattle.cad_capabilities.proofs.Acts.{finds_with}
use Rattle.cad_evaluation.specs.Arguments.{argument, identifier_in, with_identifier}
use Rattle.cad_rows.specs.Views.{pure_row, pure_tree}
use Rattle.cad_state.specs.Views.{state_over}
use Rattle.cad_syntax.specs.Types.{pure_type}
use Rattle.cad_syntax.specs.declared.address.Domain.TheVariants as domain
use Rattle.cad_values.specs.Shapes.{is_reference_type}
use Rattle.cad_world.specs.State.{guard}
use Rattle.cad_capabilities.specs.Code.{borrowed_under}
use Rattle.cad_capabilities.proofs.getting.borrow_published.Goals as goal

pub returns-in-Some : goal.returns-in-Some
returns-in-Some c =
    let type = pure_type c.args.wanted.now in
    let row = pure_row c.args.row.now in
    let f = borrowed_under c.args.address type in
    let rest = with_identifier domain.Public 0 row f in
    find_same pure_tree (guard (is_reference_type type) rest) rest c.args.state.now c.borrow_under.new.state c.borrow_under.result
    (λ w ready. ap (λ (is : Bool). guard is rest (state_over w c.args.state.now)) (sym c.is_reference.ensures ∙ c.if-not-is_reference.false))
    (finds_with pure_tree f (option_and_then (identifier_in domain.Public) (argument 0 row)) c.in-Some.name.now c.args.state.now c.borrow_under.new.state c.borrow_under.result
    c.in-Some.ensures c.borrow_under.ensures)
