use Rattle.std.proofs.Common.{◌≡◌, Bool, IsTrue, arith}
use Rattle.cad_world_checks.proofs.PartLaws.{own_of, among_of, not_told}
use Rattle.cad_world_checks.proofs.Soundness.{passed}
use Rattle.cad_world_checks.specs.Code.Summaries.{Follows, are_among_or_new}
use Rattle.cad_world_checks.proofs.part_summary.follows.Goals as goal

pub returns-then-next-after : goal.returns-then-next-after
returns-then-next-after c = not_told

pub returns-then-not-branch : goal.returns-then-not-branch
returns-then-not-branch c = not_told

pub returns-then-not-branch-2 : goal.returns-then-not-branch-2
returns-then-not-branch-2 c = not_told

pub returns-then-not-branch-3 : goal.returns-then-not-branch-3
returns-then-not-branch-3 c = not_told

pub returns-then-not-branch-4 : goal.returns-then-not-branch-4
returns-then-not-branch-4 c = not_told

pub returns : goal.returns
returns c =
    let before = c.args.before.now in
    let after = c.args.after.now in
    let was = c.as_slice-old.ensures in
    let now = c.as_slice-new.ensures in
    let numbers = c.as_slice-numbers.ensures in
    let known = c.as_slice-known.ensures in
    passed (λ (b : Bool). b ≡ are_among_or_new c.as_slice-known.result.now before.next_identity c.as_slice-numbers.result.now) (λ (b : Bool). IsTrue b → Follows before after) c.are_among_or_new-2.result
    (λ b tells holds. record {
      indexes_before = own_of c.in_ok-are_own_numbers.field-0 before.count c.as_slice-old.result.now before.indexes was c.in_ok-are_own_numbers.ensures c.if-not-branch.false;
      indexes_after = own_of c.in_ok-are_own_numbers-2.field-0 after.count c.as_slice-new.result.now after.indexes now c.in_ok-are_own_numbers-2.ensures c.if-not-branch-2.false;
      still_known = among_of c.in_ok-are_among_or_new.field-0 before.count c.as_slice-new.result.now after.indexes c.as_slice-old.result.now before.indexes now was c.in_ok-are_among_or_new.ensures c.if-not-branch-3.false;
      identities = own_of c.in_ok-are_own_numbers-3.field-0 after.next_identity c.as_slice-numbers.result.now after.identities numbers c.in_ok-are_own_numbers-3.ensures c.if-not-branch-4.false;
      among_or_new = among_of b before.next_identity c.as_slice-known.result.now before.identities c.as_slice-numbers.result.now after.identities known numbers tells holds;
      next_rises = omega arith;
    })
    c.are_among_or_new-2.ensures
