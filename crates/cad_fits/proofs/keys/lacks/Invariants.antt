use Rattle.std.proofs.Common.{drop, map}
use Rattle.std.specs.Prelude.{◌↔◌}
use Rattle.cad_values.specs.Keys.{key_form}
use Rattle.cad_values.specs.Values.{pure_entry, entries_of, keys}
use Rattle.cad_fits.specs.Keys.{Lacks}
use Rattle.cad_fits.proofs.keys.lacks.Given as goal

abbrev pub invariant-loop-i : goal.invariant-loop-i
invariant-loop-i l = Lacks (key_form (pure_entry l.other).key) (keys (entries_of (map pure_entry (drop l.i l.entries)))) ↔ Lacks (key_form (pure_entry l.other).key) (keys (entries_of (map pure_entry (drop l.from l.entries))))
