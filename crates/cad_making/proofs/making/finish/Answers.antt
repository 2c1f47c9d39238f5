use Rattle.std.proofs.Common.{◌∙◌, sym, ap, refl}
use Rattle.cad_world.specs.Rows.{slot}
use Rattle.cad_rows.specs.Views.{pure_row, pure_tree}
use Rattle.cad_state.specs.Views.{state_over}
use Rattle.cad_making.specs.Code.Fields.{is_set}
use Rattle.cad_making.proofs.Acts.{finishes, unfinished, set_there}
use Rattle.cad_making.proofs.making.finish.Goals as goal

pub returns-then-not-is_first_set : goal.returns-then-not-is_first_set
returns-then-not-is_first_set c = λ w. unfinished (pure_row c.args.state.now.making.items) (state_over w c.args.state.now)
    (sym (c.is_first_set.ensures ∙ ap (λ xs. is_set (slot 0 (pure_row xs))) c.as_slice.ensures.value) ∙ c.if-not-is_first_set.true)

pub returns-in-Some : goal.returns-in-Some
returns-in-Some c = λ w. finishes (pure_row c.args.state.now.making.items) (pure_row c.cut.new.row.items) (pure_tree c.in-Some.tree) (state_over w c.args.state.now) _
    (sym (c.is_first_set.ensures ∙ ap (λ xs. is_set (slot 0 (pure_row xs))) c.as_slice.ensures.value) ∙ c.if-not-is_first_set.false)
    c.in-Some.ensures.tree c.cut.ensures.row refl

pub returns-in-None : goal.returns-in-None
returns-in-None c = λ w. set_there (pure_row c.args.state.now.making.items) (state_over w c.args.state.now)
    (sym (c.is_first_set.ensures ∙ ap (λ xs. is_set (slot 0 (pure_row xs))) c.as_slice.ensures.value) ∙ c.if-not-is_first_set.false) c.in-None.ensures.tree
