use Rattle.std.proofs.Common.{IsTrue, subst}
use Rattle.std.specs.Prelude.{IfOk, ◌↔◌}
use Rattle.cad_codec.specs.Forms.{HasBytes}
use Rattle.cad_values.specs.Values.{PureValue}
use Rattle.cad_world_checks.proofs.bytes.tree_has_bytes.Goals as goal

pub returns-in-Some : goal.returns-in-Some
returns-in-Some c = subst (λ (x : PureValue). IfOk c.value_has_bytes.result (λ b. IsTrue b ↔ HasBytes x)) c.in-Some.ensures c.value_has_bytes.ensures

pub returns : goal.returns
returns c = subst (λ (x : PureValue). IfOk c.value_has_bytes-has.result (λ b. IsTrue b ↔ HasBytes x)) c.in_ok-value.ensures c.value_has_bytes-has.ensures
