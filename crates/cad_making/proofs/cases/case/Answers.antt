use Rattle.std.proofs.Common.{ap, sym}
use Rattle.std.specs.Prelude.{option_and_then}
use Rattle.cad_declarations.specs.Views.{type_entry_of}
use Rattle.cad_world.specs.State.{give, with_some}
use Rattle.cad_evaluation.specs.Making.{case_of, case_tree}
use Rattle.cad_outcomes.proofs.Steps.{does_same, gives_here}
use Rattle.cad_rows.specs.Views.{pure_tree}
use Rattle.cad_state.specs.Views.{state_over}
use Rattle.cad_making.proofs.cases.case.Goals as goal

pub returns-in-Some : goal.returns-in-Some
returns-in-Some c = λ w.
    let s = state_over w c.args.state.now in
    let made = case_of (type_entry_of c.in-Some.entry.now) c.args.n in
    does_same pure_tree (case_tree c.args.id.now c.args.n) (with_some made give) s s c.given.result
    (ap (λ o. with_some (option_and_then (λ entry. case_of entry c.args.n) o) give s) (sym c.in-Some.ensures))
    (gives_here pure_tree (with_some made give) c.given.result s (c.given.ensures made c.case_of.ensures))
