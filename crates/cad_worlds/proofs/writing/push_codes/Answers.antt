use Rattle.std.proofs.Common.{◌++◌, map, add-one, arith}
use Rattle.cad_worlds.proofs.Sections.{item_turn, item_end}
use Rattle.cad_worlds.specs.Sections.{code_of}
use Rattle.cad_worlds.specs.Standing.{register_of}
use Rattle.cad_worlds.proofs.writing.push_codes.Goals as goal

pub loop-contract-preserved : goal.loop-contract-preserved
loop-contract-preserved c =
    let all = map register_of c.args.rows.now.items ++ map code_of c.args.contracts.now in
    rw add-one (item_turn code_of c.args.contracts.now c.loop-contract.contract-index c.contract-item.result (map register_of c.loop-contract.rows.items) (map register_of c.push_code.new.rows.items) all (omega arith) c.contract-item.is c.loop-contract.invariant c.in_ok-push_code.ensures)

pub returns : goal.returns
returns c =
    let all = map register_of c.args.rows.now.items ++ map code_of c.args.contracts.now in
    item_end code_of c.args.contracts.now c.loop-contract.contract-index (map register_of c.loop-contract.rows.items) all (omega arith) c.loop-contract.invariant
