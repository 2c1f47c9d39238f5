use Rattle.std.proofs.Common.{map}
use Rattle.cad_values.specs.Values.{pure_entry}
use Rattle.cad_fits.specs.Table.{key_bytes}
use Rattle.cad_codec.proofs.Seen.{Added}
use Rattle.cad_fits.proofs.table.bytes_differ.Given as goal

abbrev pub invariant-loop-entry : goal.invariant-loop-entry
invariant-loop-entry l = Added l.seen (map (λ e. key_bytes e.key) (map pure_entry l.entries)) l.entry-index
