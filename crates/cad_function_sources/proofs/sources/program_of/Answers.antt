use Rattle.std.proofs.Common.{◌+◌, drop, ap, sym, ◌∙◌, is_some, arith}
use Rattle.cad_access.specs.RunContracts.{contracts_of, bodies_among}
use Rattle.cad_access.proofs.Found.{bodies_walked}
use Rattle.cad_function_sources.proofs.Found.{there, further}
use Rattle.cad_function_sources.specs.Sources as view
use Rattle.cad_function_sources.proofs.sources.program_of.Goals as goal

pub returns-then-has_bodies : goal.returns-then-has_bodies
returns-then-has_bodies c =
    let cs = c.args.contracts.now in
    let i = c.loop-contract.contract-index in
    let id = c.args.id.now in
    ap (λ x. view.found_in x id) c.in_ok-hold.ensures
    ∙ there (view.found_in c.contract-item.result.checked.value id) (bodies_among (contracts_of (drop (i + 1) cs)) id) (bodies_among (contracts_of cs) id)
    (ap (λ x. is_some (view.found_in x id)) (sym c.deref.ensures) ∙ sym c.has_bodies.ensures ∙ c.if-has_bodies.true)
    (bodies_walked id cs i (i + 1) c.contract-item.result (omega arith) c.loop-contract-test.true c.contract-item.is c.loop-contract.invariant)

pub loop-contract-preserved : goal.loop-contract-preserved
loop-contract-preserved c =
    let cs = c.args.contracts.now in
    let i = c.loop-contract.contract-index in
    let id = c.args.id.now in
    further (view.found_in c.contract-item.result.checked.value id) (bodies_among (contracts_of (drop (i + 1) cs)) id) (bodies_among (contracts_of cs) id)
    (ap (λ x. is_some (view.found_in x id)) (sym c.deref.ensures) ∙ sym c.has_bodies.ensures ∙ c.if-has_bodies.false)
    (bodies_walked id cs i (i + 1) c.contract-item.result (omega arith) c.loop-contract-test.true c.contract-item.is c.loop-contract.invariant)
