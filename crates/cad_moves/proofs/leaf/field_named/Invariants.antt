use Rattle.std.proofs.Common.{◌≡◌, drop}
use Rattle.cad_paths.specs.Letters as spec
use Rattle.cad_moves.proofs.leaf.field_named.Given as goal

abbrev pub invariant-loop-i : goal.invariant-loop-i
invariant-loop-i l = spec.field_named l.i (drop l.i l.fields) l.name ≡ spec.field_named 0 l.fields l.name
