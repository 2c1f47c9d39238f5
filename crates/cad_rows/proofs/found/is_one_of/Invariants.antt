use Rattle.std.proofs.Common.{◌≡◌, drop}
use Rattle.cad_world.specs.Rows as r
use Rattle.cad_rows.proofs.found.is_one_of.Given as goal

abbrev pub invariant-loop-other : goal.invariant-loop-other
invariant-loop-other l = r.is_one_of l.label (drop l.other-index l.labels) ≡ r.is_one_of l.label l.labels
