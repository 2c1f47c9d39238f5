use Rattle.std.proofs.Common.{◌≡◌, drop}
use Rattle.cad_world.specs.Rows.{join}
use Rattle.cad_rows.specs.Views.{pure_row}
use Rattle.cad_containers.proofs.Keys.{trees_of}
use Rattle.cad_containers.proofs.dictionaries.push_keys.Given as goal

abbrev pub invariant-loop-key : goal.invariant-loop-key
invariant-loop-key l = join (pure_row l.row.items) (trees_of (drop l.key-index l.keys)) ≡ join (pure_row l.fn.row.items) (trees_of l.keys)
