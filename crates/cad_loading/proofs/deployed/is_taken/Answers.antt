use Rattle.cad_loading.proofs.Verdicts.{taken_named}
use Rattle.cad_loading.proofs.deployed.is_taken.Goals as goal

pub returns : goal.returns
returns c =
    taken_named _ c.as_slice.result.now c.args.deployed.now.contracts.items c.args.id.now c.in_ok-name.name.now c.from.result c.find_contract_at-found.result c.is_some.result
    c.in_ok-name.ensures c.as_slice.ensures.value c.from.ensures c.find_contract_at-found.ensures c.is_some.ensures
