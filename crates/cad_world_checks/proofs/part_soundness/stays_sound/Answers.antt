use Rattle.std.proofs.Common.{Bool, IsTrue, map, arith}
use Rattle.cad_fits.proofs.Each.{is_so}
use Rattle.cad_shapes.specs.Held.{shapes_of}
use Rattle.cad_state.specs.Views.{contract_of}
use Rattle.cad_world.specs.Shapes.{shapes}
use Rattle.cad_world_checks.proofs.PartLaws.{IsKnownSound, accounts_of_part, contracts_of_part, follows_known, not_told, stays}
use Rattle.cad_world_checks.proofs.Soundness.{passed}
use Rattle.cad_world_checks.specs.Code.Summaries.{Follows}
use Rattle.cad_world_checks.specs.Parts.{StaysSound}
use Rattle.cad_world_checks.proofs.part_soundness.stays_sound.Goals as goal

pub returns-then-not-are_few : goal.returns-then-not-are_few
returns-then-not-are_few c = not_told

pub returns-then-not-can_be_next : goal.returns-then-not-can_be_next
returns-then-not-can_be_next c = not_told

pub returns-then-not-contracts_sound : goal.returns-then-not-contracts_sound
returns-then-not-contracts_sound c = not_told

pub returns-then-not-accounts_sound : goal.returns-then-not-accounts_sound
returns-then-not-accounts_sound c = not_told

pub returns : goal.returns
returns c =
    let before = c.args.before.now in
    let x = c.args.part.now in
    let k = shapes_of c.args.shapes.now in
    let j = shapes (map contract_of x.contracts.items) in
    let known : IsKnownSound x = record {
      few = is_so c.are_few.result c.are_few.ensures c.if-not-are_few.false;
      first = is_so c.can_be_next.result c.can_be_next.ensures c.if-not-can_be_next.false;
      next = omega arith;
      contracts = contracts_of_part c.in_ok-contracts_sound.contracts_sound k j x.count c.as_slice-contracts.result.now x.contracts.items c.requires c.as_slice-contracts.ensures.value c.in_ok-contracts_sound.ensures c.if-not-contracts_sound.false;
      known = accounts_of_part c.in_ok-accounts_sound.accounts_sound k j c.as_slice-accounts.result.now x.known.items c.requires c.as_slice-accounts.ensures.value c.in_ok-accounts_sound.ensures c.if-not-accounts_sound.false;
    } in
    passed (λ (b : Bool). IsTrue b → Follows before c.in_ok-after.after) (λ (b : Bool). IsTrue b → StaysSound before x) c.follows.result
    (λ b go holds. stays before x known (follows_known before c.in_ok-after.after x c.in_ok-after.ensures (go holds)))
    c.follows.ensures
