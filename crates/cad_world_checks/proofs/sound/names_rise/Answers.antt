use Rattle.std.proofs.Common.{◌≡◌, ℕ, ◌+◌, ◌-◌, drop, sym, subst, ◌∙◌, arith}
use Rattle.cad_world.specs.Orders.{rises, name_before}
use Rattle.cad_world_checks.proofs.Pairs.{names_chained, pair_turn, pair_break, pair_end}
use Rattle.cad_world_checks.proofs.sound.names_rise.Goals as goal

pub returns-then-not-is_before : goal.returns-then-not-is_before
returns-then-not-is_before c =
    let i = c.loop-i.i in
    pair_break name_before (rises name_before) names_chained c.args.names.now (i - 1) i c.index-names-i.result c.index-names-i-in-loop-i.result ((rises name_before) c.args.names.now) (omega arith) c.loop-i-test.true c.index-names-i.is c.index-names-i-in-loop-i.is (sym c.is_before.ensures ∙ c.if-not-is_before.true) c.loop-i.invariant

pub loop-i-preserved : goal.loop-i-preserved
loop-i-preserved c =
    let i = c.loop-i.i in
    let later : i ≡ (i + 1) - 1 = omega arith in
    subst (λ (n : ℕ). (rises name_before) (drop n c.args.names.now) ≡ (rises name_before) c.args.names.now) later
    (pair_turn name_before (rises name_before) names_chained c.args.names.now (i - 1) i c.index-names-i.result c.index-names-i-in-loop-i.result ((rises name_before) c.args.names.now) (omega arith) c.loop-i-test.true c.index-names-i.is c.index-names-i-in-loop-i.is (sym c.is_before.ensures ∙ c.if-not-is_before.false) c.loop-i.invariant)

pub returns : goal.returns
returns c = pair_end name_before (rises name_before) names_chained c.args.names.now (c.loop-i.i - 1) ((rises name_before) c.args.names.now) (omega arith) c.loop-i.invariant
