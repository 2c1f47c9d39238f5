use Rattle.std.proofs.Common.{ap, ◌∙◌}
use Rattle.cad_access.specs.RunContracts.{contracts_of}
use Rattle.cad_rows.specs.Views.{pure_row}
use Rattle.cad_state.specs.Views.{contract_of}
use Rattle.cad_world.specs.Declared.{contract_in}
use Rattle.cad_world.specs.Rows.{slot}
use Rattle.cad_locations.proofs.Looks.{value_there}
use Rattle.cad_locations.proofs.lookup.value_slot.Goals as goal

pub returns-in-Some : goal.returns-in-Some
returns-in-Some c =
    c.seen_slot.ensures ∙ c.tree_at.ensures ∙ ap (λ ps. slot 0 (pure_row ps)) c.as_slice-in-Some.ensures.value
    ∙ value_there (contracts_of c.args.state.now.contracts.items) c.args.id.now (contract_of c.in-Some.contract.now) (c.in-Some.ensures ∙ ap (λ cs. contract_in (contracts_of cs) c.args.id.now) c.as_slice.ensures.value)
