use Rattle.std.proofs.Common.{◌≡◌, map, drop}
use Rattle.cad_worlds.specs.Standing.{register_of}
use Rattle.cad_world_registers.specs.Meaning.{parts_of}
use Rattle.cad_world_registers.specs.Told.{all_made}
use Rattle.cad_world_registers.proofs.making.take_rows.Given as goal

abbrev pub invariant-loop-row : goal.invariant-loop-row
invariant-loop-row l = all_made (map register_of (drop l.row-index l.rows)) (parts_of l.parts) ≡ all_made (map register_of l.rows) (parts_of l.fn.parts)
