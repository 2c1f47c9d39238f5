use Rattle.std.proofs.Common.{ap, sym}
use Rattle.std.specs.Prelude.{option_and_then}
use Rattle.cad_num.specs.Numbers.{value_of}
use Rattle.cad_world.specs.Declared.{entry_of}
use Rattle.cad_world.specs.State.{give, with_some}
use Rattle.cad_evaluation.specs.Making.{case_at, case_from}
use Rattle.cad_outcomes.proofs.Steps.{does_same}
use Rattle.cad_rows.specs.Views.{pure_tree}
use Rattle.cad_state.specs.Views.{state_over}
use Rattle.cad_making.specs.Code.Cases.{case_from_integer}
use Rattle.cad_making.proofs.cases.case_from.Goals as goal

pub returns-in-Some : goal.returns-in-Some
returns-in-Some c = λ w.
    let s = state_over w c.args.state.now in
    does_same pure_tree (case_from c.args.id.now (pure_tree c.args.tree.now)) (case_from_integer c.args.id.now (value_of c.in-Some.x)) s s c.case_from_number.result
    (ap (λ o. with_some o (λ z. with_some (option_and_then (λ entry. case_at entry z) (entry_of s c.args.id.now)) give) s) (sym c.in-Some.ensures))
    (c.case_from_number.ensures w)
