use Rattle.std.proofs.Common.{◌≡◌, ℕ, ◌+◌, ◌-◌, drop, sym, subst, ◌∙◌, arith}
use Rattle.cad_world_checks.proofs.Pairs.{controlled_near, controlled_rise, controlled_chained, pair_turn, pair_break, pair_end}
use Rattle.cad_world_checks.proofs.sound.controllers_rise.Goals as goal

pub returns-then-not-is_controller_before : goal.returns-then-not-is_controller_before
returns-then-not-is_controller_before c =
    let i = c.loop-i.i in
    pair_break controlled_near controlled_rise controlled_chained c.args.controllers.now (i - 1) i c.index-controllers-i.result c.index-controllers-i-in-loop-i.result (controlled_rise c.args.controllers.now) (omega arith) c.loop-i-test.true c.index-controllers-i.is c.index-controllers-i-in-loop-i.is (sym c.is_controller_before.ensures ∙ c.if-not-is_controller_before.true) c.loop-i.invariant

pub loop-i-preserved : goal.loop-i-preserved
loop-i-preserved c =
    let i = c.loop-i.i in
    let later : i ≡ (i + 1) - 1 = omega arith in
    subst (λ (n : ℕ). controlled_rise (drop n c.args.controllers.now) ≡ controlled_rise c.args.controllers.now) later
    (pair_turn controlled_near controlled_rise controlled_chained c.args.controllers.now (i - 1) i c.index-controllers-i.result c.index-controllers-i-in-loop-i.result (controlled_rise c.args.controllers.now) (omega arith) c.loop-i-test.true c.index-controllers-i.is c.index-controllers-i-in-loop-i.is (sym c.is_controller_before.ensures ∙ c.if-not-is_controller_before.false) c.loop-i.invariant)

pub returns : goal.returns
returns c = pair_end controlled_near controlled_rise controlled_chained c.args.controllers.now (c.loop-i.i - 1) (controlled_rise c.args.controllers.now) (omega arith) c.loop-i.invariant
