use Rattle.std.proofs.Common.{IsTrue, subst}
use Rattle.std.specs.Prelude.{IfOk, ◌↔◌}
use Rattle.cad_shapes.specs.Held.{shapes_of}
use Rattle.cad_values.specs.Values.{PureValue}
use Rattle.cad_world_checks.specs.Checks.{LastsAs}
use Rattle.cad_world_checks.proofs.sound.is_kept_content.Goals as goal

pub returns-in-Some : goal.returns-in-Some
returns-in-Some c = subst (λ (x : PureValue). IfOk c.is_kept_value.result (λ b. IsTrue b ↔ LastsAs (shapes_of c.args.shapes.now) x)) c.in-Some.ensures c.is_kept_value.ensures

pub returns : goal.returns
returns c = subst (λ (x : PureValue). IfOk c.is_kept_value-kept.result (λ b. IsTrue b ↔ LastsAs (shapes_of c.args.shapes.now) x)) c.in_ok-value.ensures c.is_kept_value-kept.ensures
