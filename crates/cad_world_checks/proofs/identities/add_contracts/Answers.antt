use Rattle.std.proofs.Common.{List, ◌++◌, ap, ◌∙◌, add-one, arith}
use Rattle.std.specs.List.{flat_map}
use Rattle.cad_rows.specs.Views.{pure_row}
use Rattle.cad_rows.specs.declared.tree.Place.{Place}
use Rattle.cad_world.specs.Rows.{identities}
use Rattle.cad_worlds.proofs.Sections.{flat_turn, flat_end}
use Rattle.cad_world_checks.specs.Identities.{contract_identities}
use Rattle.cad_world_checks.proofs.identities.add_contracts.Goals as goal

pub loop-contract-preserved : goal.loop-contract-preserved
loop-contract-preserved c =
    let all = c.args.found.now ++ flat_map contract_identities c.args.contracts.now in
    rw add-one (flat_turn contract_identities c.args.contracts.now c.loop-contract.contract-index c.contract-item.result c.loop-contract.found c.add_row_identities.new.found all (omega arith) c.contract-item.is c.loop-contract.invariant
    (c.in_ok-add_row_identities.ensures ∙ ap (λ (ps : List Place). c.loop-contract.found ++ identities (pure_row ps)) c.as_slice.ensures.value))

pub returns : goal.returns
returns c =
    let all = c.args.found.now ++ flat_map contract_identities c.args.contracts.now in
    flat_end contract_identities c.args.contracts.now c.loop-contract.contract-index c.loop-contract.found all (omega arith) c.loop-contract.invariant
