use Rattle.std.proofs.Common.{◌≡◌, ℕ, ◌+◌, ◌-◌, drop, sym, subst, ◌∙◌, arith}
use Rattle.cad_world_checks.proofs.Pairs.{published_near, published_rise, published_chained, pair_turn, pair_break, pair_end}
use Rattle.cad_world_checks.proofs.sound.publications_rise.Goals as goal

pub returns-then-not-is_published_before : goal.returns-then-not-is_published_before
returns-then-not-is_published_before c =
    let i = c.loop-i.i in
    pair_break published_near published_rise published_chained c.args.published.now (i - 1) i c.index-published-i.result c.index-published-i-in-loop-i.result (published_rise c.args.published.now) (omega arith) c.loop-i-test.true c.index-published-i.is c.index-published-i-in-loop-i.is (sym c.is_published_before.ensures ∙ c.if-not-is_published_before.true) c.loop-i.invariant

pub loop-i-preserved : goal.loop-i-preserved
loop-i-preserved c =
    let i = c.loop-i.i in
    let later : i ≡ (i + 1) - 1 = omega arith in
    subst (λ (n : ℕ). published_rise (drop n c.args.published.now) ≡ published_rise c.args.published.now) later
    (pair_turn published_near published_rise published_chained c.args.published.now (i - 1) i c.index-published-i.result c.index-published-i-in-loop-i.result (published_rise c.args.published.now) (omega arith) c.loop-i-test.true c.index-published-i.is c.index-published-i-in-loop-i.is (sym c.is_published_before.ensures ∙ c.if-not-is_published_before.false) c.loop-i.invariant)

pub returns : goal.returns
returns c = pair_end published_near published_rise published_chained c.args.published.now (c.loop-i.i - 1) (published_rise c.args.published.now) (omega arith) c.loop-i.invariant
