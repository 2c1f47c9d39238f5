use Rattle.std.proofs.Common.{map, ap}
use Rattle.cad_worlds.proofs.Sections.{of_contracts}
use Rattle.cad_worlds.specs.Standing.{register_of}
use Rattle.cad_worlds.proofs.writing.contract_registers.Goals as goal

pub returns : goal.returns
returns c =
    of_contracts c.as_slice-contracts.result.now c.args.world.now.contracts.items (map register_of c.new-rows.result.items) (map register_of c.push_codes.new.rows.items) (map register_of c.push_values.new.rows.items)
    c.as_slice-contracts.ensures.value (ap (map register_of) c.new-rows.ensures.items) c.in_ok-push_codes.ensures c.in_ok-push_values.ensures
