use Rattle.std.proofs.Common.{◌≡◌, ◌++◌, map, drop}
use Rattle.cad_worlds.proofs.Sections.{contents}
use Rattle.cad_worlds.specs.Standing.{register_of}
use Rattle.cad_worlds.proofs.writing.push_contents.Given as goal

abbrev pub invariant-loop-place : goal.invariant-loop-place
invariant-loop-place l = map register_of l.rows.items ++ contents l.id (drop l.place-index l.places) ≡ map register_of l.fn.rows.items ++ contents l.id l.places
