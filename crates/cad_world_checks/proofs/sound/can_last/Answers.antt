use Rattle.cad_values.specs.Values.{pure_value}
use Rattle.cad_world_checks.proofs.Soundness.{never, refuted}
use Rattle.cad_values.specs.Forms.{is_storable_value}
use Rattle.cad_world_checks.specs.Checks.{CanLast}
use Rattle.cad_world_checks.proofs.sound.can_last.Goals as goal

pub returns-then-not-is_storable : goal.returns-then-not-is_storable
returns-then-not-is_storable c =
    never {P = CanLast (pure_value c.args.value.now)} (λ l. refuted c.is_storable.result (is_storable_value (pure_value c.args.value.now)) c.is_storable.ensures c.if-not-is_storable.true l.0)
