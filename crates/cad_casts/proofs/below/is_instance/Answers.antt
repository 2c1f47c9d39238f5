use Rattle.cad_casts.proofs.Plain.{below_same}
use Rattle.cad_state.specs.Views.{state_over}
use Rattle.cad_syntax.specs.Types.{pure_type}
use Rattle.cad_world.specs.Declared.{declarations}
use Rattle.cad_casts.proofs.below.is_instance.Goals as goal

pub returns-then-same-clause-told : goal.returns-then-same-clause-told
returns-then-same-clause-told c = λ w. below_same (declarations (state_over w c.args.state.now)) (pure_type c.args.own.now) (pure_type c.args.wanted.now) (c.same.ensures.0 c.if-same.true)
