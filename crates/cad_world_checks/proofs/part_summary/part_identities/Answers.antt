use Rattle.std.proofs.Common.{List, ℕ, ◌++◌, ap, ◌∙◌}
use Rattle.std.specs.List.{flat_map}
use Rattle.cad_world_checks.specs.Identities.{contract_identities}
use Rattle.cad_world_checks.specs.Parts.{known_identities}
use Rattle.cad_world_checks.proofs.part_summary.part_identities.Goals as goal

pub returns : goal.returns
returns c =
    c.in_ok-add_contracts.ensures
    ∙ ap (λ (ns : List ℕ). ns ++ flat_map contract_identities c.as_slice-contracts.result.now) (c.in_ok-add_known.ensures ∙ ap (λ (ns : List ℕ). ns ++ flat_map known_identities c.as_slice-known.result.now) c.new-found.ensures)
    ∙ (λ i. flat_map known_identities (c.as_slice-known.ensures.value i) ++ flat_map contract_identities (c.as_slice-contracts.ensures.value i))
