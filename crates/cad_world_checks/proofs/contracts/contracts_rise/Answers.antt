use Rattle.std.proofs.Common.{◌≡◌, ℕ, ◌+◌, ◌-◌, drop, sym, subst, ◌∙◌, arith}
use Rattle.cad_world_checks.proofs.Pairs.{named_near, named_rise, named_chained, pair_turn, pair_break, pair_end}
use Rattle.cad_world_checks.proofs.contracts.contracts_rise.Goals as goal

pub returns-then-not-is_contract_before : goal.returns-then-not-is_contract_before
returns-then-not-is_contract_before c =
    let i = c.loop-i.i in
    pair_break named_near named_rise named_chained c.args.contracts.now (i - 1) i c.index-contracts-i.result c.index-contracts-i-in-loop-i.result (named_rise c.args.contracts.now) (omega arith) c.loop-i-test.true c.index-contracts-i.is c.index-contracts-i-in-loop-i.is (sym c.is_contract_before.ensures ∙ c.if-not-is_contract_before.true) c.loop-i.invariant

pub loop-i-preserved : goal.loop-i-preserved
loop-i-preserved c =
    let i = c.loop-i.i in
    let later : i ≡ (i + 1) - 1 = omega arith in
    subst (λ (n : ℕ). named_rise (drop n c.args.contracts.now) ≡ named_rise c.args.contracts.now) later
    (pair_turn named_near named_rise named_chained c.args.contracts.now (i - 1) i c.index-contracts-i.result c.index-contracts-i-in-loop-i.result (named_rise c.args.contracts.now) (omega arith) c.loop-i-test.true c.index-contracts-i.is c.index-contracts-i-in-loop-i.is (sym c.is_contract_before.ensures ∙ c.if-not-is_contract_before.false) c.loop-i.invariant)

pub returns : goal.returns
returns c = pair_end named_near named_rise named_chained c.args.contracts.now (c.loop-i.i - 1) (named_rise c.args.contracts.now) (omega arith) c.loop-i.invariant
