use Rattle.std.proofs.Common.{◌∙◌, ap, sym}
use Rattle.std.specs.Prelude.{option_and_then}
use Rattle.cad_declarations.specs.Views.{type_entry_of}
use Rattle.cad_num.specs.Numbers.{value_of}
use Rattle.cad_world.specs.State.{give, with_some}
use Rattle.cad_evaluation.specs.Making.{case_at}
use Rattle.cad_outcomes.proofs.Steps.{does_same, gives_here}
use Rattle.cad_rows.specs.Views.{pure_tree}
use Rattle.cad_state.specs.Views.{state_over}
use Rattle.cad_making.specs.Code.Cases.{case_by, case_from_integer, number_below}
use Rattle.cad_making.proofs.Numbered.{case_there}
use Rattle.cad_making.proofs.cases.case_from_number.Goals as goal

pub returns-in-Some : goal.returns-in-Some
returns-in-Some c = λ w.
    let s = state_over w c.args.state.now in
    let entry = type_entry_of c.in-Some.entry.now in
    let made = case_by entry c.number_below.result in
    does_same pure_tree (case_from_integer c.args.id.now (value_of c.args.x)) (with_some made give) s s c.given.result
    (ap (λ o. with_some (option_and_then (λ e. case_at e (value_of c.args.x)) o) give s) (sym c.in-Some.ensures)
    ∙ ap (λ o. with_some o give s) (sym (ap (case_by entry) (c.number_below.ensures ∙ ap (λ k. number_below k (value_of c.args.x)) c.len.ensures) ∙ case_there entry (value_of c.args.x))))
    (gives_here pure_tree (with_some made give) c.given.result s (c.given.ensures made c.case_at.ensures))
