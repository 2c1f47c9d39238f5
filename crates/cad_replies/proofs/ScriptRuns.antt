-- What is told of what a run comes to.
use Rattle.std.proofs.Common.{◌≡◌, Some, ap, ◌∙◌}
use Rattle.std.specs.Prelude.{Result, Ok, Err}
use Rattle.serde_json.specs.Data.{Data}
use Rattle.cad_outcomes.specs.Outcomes.{Does}
use Rattle.cad_outcomes.specs.declared.stop.Stop.{Stop}
use Rattle.cad_outcomes.specs.declared.stop.Stop.TheVariants.{Failed, Limit, IllTyped, Memory}
use Rattle.cad_runs.specs.Commands.{Reply}
use Rattle.cad_values.specs.Shapes.{declarations}
use Rattle.cad_values.specs.Values.{PureValue, pure_value}
use Rattle.cad_values.specs.declared.value.Value.{Value}
use Rattle.cad_world.specs.Shapes.{shapes}
use Rattle.cad_world.specs.State.{State, Action}
use Rattle.cad_replies.specs.Code.{told_of}
use Rattle.cad_replies.specs.Scripts.{told_reply}

pub some_is : {A : Type 0} (a b : A) → Some a ≡ Some b → a ≡ b
some_is a b e = cc

-- what is told of what a run came to, by what the contracts of the state at the end declare
pub tells : (a : Action PureValue) (s after : State) (outcome : Result Value Stop) (reply : Reply Data)
    → Does pure_value a s after outcome → told_of (declarations (shapes after.contracts)) outcome ≡ Some reply → told_reply (a s) ≡ reply
tells a s after (Ok v) reply does told = ap told_reply does ∙ some_is _ _ told
tells a s after (Err (Failed error)) reply does told = ap told_reply does ∙ some_is _ _ told
tells a s after (Err Limit) reply does told = ap told_reply does ∙ some_is _ _ told
tells a s after (Err IllTyped) reply does told = ap told_reply does ∙ some_is _ _ told
tells a s after (Err Memory) reply does told = absurd cc
