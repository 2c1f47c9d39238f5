use Rattle.cad_world_checks.proofs.Numbers.{none_held, held_more, all_held}
use Rattle.cad_world_checks.proofs.part_summary.number_set.Goals as goal

pub loop-number-init : goal.loop-number-init
loop-number-init c = none_held c.new-seen.result c.new-seen.ensures.empty

pub loop-number-preserved : goal.loop-number-preserved
loop-number-preserved c =
    held_more c.loop-number.seen c.add_number.new.seen c.args.numbers.now c.loop-number.number-index c.in_ok-add_number.field-0 c.loop-number.invariant c.loop-number-test.true c.in_ok-add_number.ensures

pub returns : goal.returns
returns c = all_held c.loop-number.seen c.args.numbers.now c.loop-number.number-index c.loop-number.invariant c.loop-number-test.false
