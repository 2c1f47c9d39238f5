use Rattle.std.proofs.Common.{◌↔◌}
use Rattle.cad_rows.specs.Views.{pure_row}
use Rattle.cad_shapes.specs.Held.{shapes_of}
use Rattle.cad_world.specs.Sound.{AreStored}
use Rattle.cad_world_checks.proofs.Kept.{StoredFrom}
use Rattle.cad_world_checks.proofs.sound.are_stored.Given as goal

abbrev pub invariant-loop-i : goal.invariant-loop-i
invariant-loop-i l = StoredFrom (shapes_of l.shapes) l.i l.names l.places ↔ AreStored (shapes_of l.shapes) l.names (pure_row l.places)
