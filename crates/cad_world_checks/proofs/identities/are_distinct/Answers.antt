use Rattle.cad_world_checks.proofs.Numbers.{none_seen, seen_more, seen_twice, all_seen}
use Rattle.cad_world_checks.proofs.identities.are_distinct.Goals as goal

pub loop-number-init : goal.loop-number-init
loop-number-init c = none_seen c.new-seen.result c.args.numbers.now c.new-seen.ensures.empty

pub returns-then-not-branch : goal.returns-then-not-branch
returns-then-not-branch c =
    seen_twice c.loop-number.seen c.add_number.new.seen c.args.numbers.now c.loop-number.number-index c.in_ok-add_number.field-0 c.loop-number.invariant c.loop-number-test.true c.in_ok-add_number.ensures c.if-not-branch.true

pub loop-number-preserved : goal.loop-number-preserved
loop-number-preserved c =
    seen_more c.loop-number.seen c.add_number.new.seen c.args.numbers.now c.loop-number.number-index c.in_ok-add_number.field-0 c.loop-number.invariant c.loop-number-test.true c.in_ok-add_number.ensures c.if-not-branch.false

pub returns : goal.returns
returns c = all_seen c.loop-number.seen c.args.numbers.now c.loop-number.number-index c.loop-number.invariant c.loop-number-test.false
