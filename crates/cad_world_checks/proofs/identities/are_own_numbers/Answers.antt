use Rattle.std.proofs.Common.{Bool, IsTrue}
use Rattle.std.specs.Prelude.{◌↔◌}
use Rattle.cad_values.specs.Keys.{Distinct}
use Rattle.cad_world_checks.proofs.Numbers.{not_given, own_so}
use Rattle.cad_world_checks.proofs.Soundness.{never, passed}
use Rattle.cad_world_checks.specs.Identities.{AreOwn}
use Rattle.cad_world_checks.proofs.identities.are_own_numbers.Goals as goal

pub returns-then-not-are_given : goal.returns-then-not-are_given
returns-then-not-are_given c = never {P = AreOwn c.args.next c.args.numbers.now} (not_given c.are_given.result c.args.next c.args.numbers.now c.are_given.ensures c.if-not-are_given.true)

pub returns : goal.returns
returns c =
    passed (λ (b : Bool). IsTrue b ↔ Distinct c.args.numbers.now) (λ (b : Bool). IsTrue b ↔ AreOwn c.args.next c.args.numbers.now) c.are_distinct.result
    (λ b tells. own_so c.are_given.result b c.args.next c.args.numbers.now c.are_given.ensures c.if-not-are_given.false tells) c.are_distinct.ensures
