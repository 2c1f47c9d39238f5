use Rattle.cad_outcomes.proofs.Steps.{then, stopped}
use Rattle.cad_rows.specs.Views.{pure_tree}
use Rattle.cad_state.specs.Views.{state_over}
use Rattle.cad_world.specs.Transfers.{charged}
use Rattle.cad_making.specs.Dying.{dying_of}
use Rattle.cad_making.specs.Code.Ends.{tree_aside}
use Rattle.cad_making.proofs.dying.lay_out.Goals as goal

pub returns-in-Ok : goal.returns-in-Ok
returns-in-Ok c = λ w. then dying_of (charged (pure_tree c.args.tree)) (λ _. tree_aside (pure_tree c.args.tree)) tt (state_over w c.args.state.now) (state_over w c.charge.new.self) (state_over w c.set_tree_aside.new.state) c.set_tree_aside.result
    (c.in-Ok.ensures w) (c.set_tree_aside.ensures w)

pub returns-in-Err : goal.returns-in-Err
returns-in-Err c = λ w. stopped dying_of (charged (pure_tree c.args.tree)) (λ _. tree_aside (pure_tree c.args.tree)) (state_over w c.args.state.now) (state_over w c.args.state.now) c.in-Err.stop (c.in-Err.ensures w)
