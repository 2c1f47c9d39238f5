use Rattle.std.proofs.Common.{◌≡◌, ◌++◌, sym, ◌∙◌}
use Rattle.std.specs.List.{flat_map}
use Rattle.std.proofs.lemmas.Result.{IfOk-weaker}
use Rattle.cad_world_checks.proofs.Numbers.{live_are}
use Rattle.cad_world_checks.specs.Identities.{stored_identities, contract_identities}
use Rattle.cad_world_checks.proofs.identities.live_identities.Goals as goal

pub returns : goal.returns
returns c =
    let accounts = c.args.world.now.accounts.items in
    let contracts = c.args.world.now.contracts.items in
    let lives : flat_map stored_identities c.as_slice-accounts.result.now ++ flat_map contract_identities c.as_slice-contracts.result.now ≡ flat_map stored_identities accounts ++ flat_map contract_identities contracts =
    λ i. flat_map stored_identities (c.as_slice-accounts.ensures.value i) ++ flat_map contract_identities (c.as_slice-contracts.ensures.value i) in
    IfOk-weaker c.live.result _ _ (λ found e. e ∙ lives ∙ sym (live_are accounts contracts c.args.world.now.next_identity)) c.live.ensures
