use Rattle.std.proofs.Common.{drop, map}
use Rattle.std.specs.Prelude.{◌↔◌}
use Rattle.cad_values.specs.Keys.{KeysDiffer}
use Rattle.cad_values.specs.Values.{pure_entry, entries_of, keys}
use Rattle.cad_fits.proofs.keys.pairs_differ.Given as goal

abbrev pub invariant-loop-i : goal.invariant-loop-i
invariant-loop-i l = KeysDiffer (keys (entries_of (map pure_entry (drop l.i l.entries)))) ↔ KeysDiffer (keys (entries_of (map pure_entry l.entries)))
