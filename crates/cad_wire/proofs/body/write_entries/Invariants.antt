use Rattle.std.proofs.Common.{◌≡◌, ◌++◌, ◌∷◌, ◌<◌, ℕ, length, take, get_or}
use Rattle.std.specs.List.{flat_map}
use Rattle.cad_wire.specs.declared.entry.Entry.{Entry}
use Rattle.cad_wire.specs.Fields.{length_field}
use Rattle.cad_wire.specs.Body.{entry_field, Fits}
use Rattle.cad_wire.proofs.body.write_entries.Given as goal

abbrev pub invariant-loop-entry : goal.invariant-loop-entry
invariant-loop-entry l = record {
  written : l.writer ≡ 1 ∷ (length_field (length l.entries) ++ flat_map entry_field (take l.entry-index l.entries));
  fit : (k : ℕ) (d : Entry) → k < l.entry-index → Fits (get_or l.entries k d);
}
