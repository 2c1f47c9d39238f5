use Rattle.cad_rows.specs.Views.{pure_tree}
use Rattle.cad_syntax.specs.Types.{pure_type}
use Rattle.cad_syntax.specs.Types as types
use Rattle.cad_state.specs.Views.{state_over}
use Rattle.cad_standing.proofs.CastSteps.{handed_some, handed_none}
use Rattle.cad_standing.proofs.casting.hand_over.Goals as goal

pub returns-in-Ok-transfer : goal.returns-in-Ok-transfer
returns-in-Ok-transfer c = λ w.
    handed_some (types.optional (pure_type c.args.wanted.now)) (pure_type c.in-Ok.optional) (pure_tree c.args.tree) (pure_tree c.in-Ok-transfer.handed)
    (state_over w c.args.state.now) (state_over w c.transfer.new.self) c.in-Ok.ensures (c.in-Ok-transfer.ensures w)

pub returns-in-Err-transfer : goal.returns-in-Err-transfer
returns-in-Err-transfer c = λ w.
    handed_none (types.optional (pure_type c.args.wanted.now)) (pure_type c.in-Ok.optional) (pure_tree c.args.tree)
    (state_over w c.args.state.now) c.in-Err-transfer.stop c.in-Ok.ensures (c.in-Err-transfer.ensures w)
