use Rattle.std.proofs.Common.{◌++◌, ◌∙◌, ap}
use Rattle.cad_world.specs.Rows.{tree_identities}
use Rattle.cad_outcomes.proofs.Steps.{does_same}
use Rattle.cad_rows.specs.Views.{pure_place, pure_tree}
use Rattle.cad_state.specs.Views.{state_over}
use Rattle.cad_making.specs.Code.Ends.{told_in, placed_aside, tree_aside}
use Rattle.cad_making.specs.Dying.{dying_of}
use Rattle.cad_making.proofs.Aside.{tree_placed}
use Rattle.cad_making.proofs.dying.set_tree_aside.Goals as goal

pub returns-in-Ok : goal.returns-in-Ok
returns-in-Ok c = λ w. does_same dying_of (tree_aside (pure_tree c.args.tree)) (placed_aside (told_in c.args.state.now) (pure_place c.place_of.result) c.add_identities.new.found) (state_over w c.args.state.now) (state_over w c.set_aside.new.state) c.set_aside.result
    (tree_placed w c.args.state.now (pure_tree c.args.tree) (pure_place c.place_of.result) c.add_identities.new.found c.place_of.ensures (c.in-Ok.ensures ∙ ap (λ xs. xs ++ tree_identities (pure_tree c.args.tree)) c.new-identities.ensures)) (c.set_aside.ensures w)
