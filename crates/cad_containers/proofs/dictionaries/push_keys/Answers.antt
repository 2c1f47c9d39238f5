use Rattle.std.proofs.Common.{arith, add-one}
use Rattle.cad_world.specs.Rows.{join}
use Rattle.cad_rows.specs.Views.{pure_row, pure_tree}
use Rattle.cad_containers.proofs.Keys.{trees_of, keys_turn, keys_end}
use Rattle.cad_containers.proofs.dictionaries.push_keys.Goals as goal

pub loop-key-preserved : goal.loop-key-preserved
loop-key-preserved c =
    rw add-one (keys_turn c.args.keys.now c.loop-key.key-index c.key-item.result (pure_tree c.in_ok-tree.tree) (pure_row c.loop-key.row.items) (pure_row c.add_last.new.row.items)
    (join (pure_row c.args.row.now.items) (trees_of c.args.keys.now)) c.loop-key-test.true c.key-item.is c.loop-key.invariant c.in_ok-tree.ensures c.in_ok-add_last.ensures)

pub returns : goal.returns
returns c = keys_end c.args.keys.now c.loop-key.key-index (pure_row c.loop-key.row.items) (join (pure_row c.args.row.now.items) (trees_of c.args.keys.now)) (omega arith) c.loop-key.invariant
