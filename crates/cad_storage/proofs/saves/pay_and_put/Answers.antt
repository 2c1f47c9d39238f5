use Rattle.cad_evaluation.specs.Storage.{paid_parts}
use Rattle.cad_outcomes.proofs.Steps.{stops_on, then}
use Rattle.cad_rows.specs.Views.{pure_tree}
use Rattle.cad_state.specs.Views.{state_over}
use Rattle.cad_storage.specs.Code.{stored}
use Rattle.cad_storage.proofs.saves.pay_and_put.Goals as goal

pub returns-in-Ok : goal.returns-in-Ok
returns-in-Ok c = λ w.
    let t = pure_tree c.args.tree in
    then pure_tree (paid_parts t) (λ _. stored c.args.address c.args.name t) tt (state_over w c.args.state.now) (state_over w c.pay.new.state) (state_over w c.put.new.state) c.put.result (c.in-Ok.ensures w) (c.put.ensures w)

pub returns-in-Err : goal.returns-in-Err
returns-in-Err c = λ w.
    let t = pure_tree c.args.tree in
    stops_on (paid_parts t (state_over w c.args.state.now)) (λ _. stored c.args.address c.args.name t) c.in-Err.stop (c.in-Err.ensures w)
