use Rattle.std.proofs.Common.{Bool, IsTrue, List, map, subst}
use Rattle.std.specs.Prelude.{◌↔◌}
use Rattle.std.specs.List.{AllByRecursion}
use Rattle.cad_fits.proofs.Each.{is_so}
use Rattle.cad_state.specs.Views.{contract_of}
use Rattle.cad_state.specs.declared.state.Contract.{Contract}
use Rattle.cad_state.specs.declared.state.Known.{Known}
use Rattle.cad_worlds.specs.Standing.{AccountHasBytes, ContractHasBytes}
use Rattle.cad_world_checks.proofs.PartLaws.{not_told, stays_with_bytes}
use Rattle.cad_world_checks.proofs.Soundness.{passed}
use Rattle.cad_world_checks.specs.Code.Summaries.{account_in}
use Rattle.cad_world_checks.specs.Parts.{StaysWithBytes}
use Rattle.cad_world_checks.proofs.part_bytes.part_has_bytes.Goals as goal

pub returns-then-not-held : goal.returns-then-not-held
returns-then-not-held c = not_told

pub returns : goal.returns
returns c =
    let x = c.args.part.now in
    let known = subst (λ (ks : List Known). AllByRecursion AccountHasBytes (map account_in ks)) c.as_slice-known.ensures.value (is_so c.in_ok-held.held c.in_ok-held.ensures c.if-not-held.false) in
    passed (λ (b : Bool). IsTrue b ↔ AllByRecursion ContractHasBytes (map contract_of c.as_slice-contracts.result.now)) (λ (b : Bool). IsTrue b → StaysWithBytes x) c.contracts_have_bytes.result
    (λ b tells holds. stays_with_bytes x known (subst (λ (cs : List Contract). AllByRecursion ContractHasBytes (map contract_of cs)) c.as_slice-contracts.ensures.value (tells.0 holds)))
    c.contracts_have_bytes.ensures
