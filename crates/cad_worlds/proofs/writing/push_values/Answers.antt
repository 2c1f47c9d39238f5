use Rattle.std.proofs.Common.{◌++◌, map, add-one, arith}
use Rattle.std.specs.List.{flat_map}
use Rattle.cad_worlds.proofs.Sections.{flat_turn, flat_end}
use Rattle.cad_worlds.specs.Sections.{fields_of}
use Rattle.cad_worlds.specs.Standing.{register_of}
use Rattle.cad_worlds.proofs.writing.push_values.Goals as goal

pub loop-contract-preserved : goal.loop-contract-preserved
loop-contract-preserved c =
    let all = map register_of c.args.rows.now.items ++ flat_map fields_of c.args.contracts.now in
    rw add-one (flat_turn fields_of c.args.contracts.now c.loop-contract.contract-index c.contract-item.result (map register_of c.loop-contract.rows.items) (map register_of c.push_value.new.rows.items) all (omega arith) c.contract-item.is c.loop-contract.invariant c.in_ok-push_value.ensures)

pub returns : goal.returns
returns c =
    let all = map register_of c.args.rows.now.items ++ flat_map fields_of c.args.contracts.now in
    flat_end fields_of c.args.contracts.now c.loop-contract.contract-index (map register_of c.loop-contract.rows.items) all (omega arith) c.loop-contract.invariant
