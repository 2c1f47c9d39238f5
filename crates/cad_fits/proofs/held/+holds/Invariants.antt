use Rattle.std.proofs.Common.{◌≡◌, drop, map}
use Rattle.cad_shapes.specs.Held.{shapes_of}
use Rattle.cad_shapes.specs.Views as shape
use Rattle.cad_syntax.specs.Types.{pure_type}
use Rattle.cad_values.specs.Values.{pure_value, pure_field, pure_entry, values_of, entries_of, fields_of}
use Rattle.cad_fits.specs.Tests as spec
use Rattle.cad_fits.proofs.held.+holds.Given as goal

abbrev pub invariant-values_fit-loop-value : goal.invariant-values_fit-loop-value
invariant-values_fit-loop-value l =
    spec.values_fit (shapes_of l.shapes) (pure_type l.want) (values_of (map pure_value (drop l.value-index l.values))) ≡ spec.values_fit (shapes_of l.shapes) (pure_type l.want) (values_of (map pure_value l.values))

abbrev pub invariant-entries_fit-loop-entry : goal.invariant-entries_fit-loop-entry
invariant-entries_fit-loop-entry l =
    spec.entries_fit (shapes_of l.shapes) (pure_type l.key) (pure_type l.want) (entries_of (map pure_entry (drop l.entry-index l.entries))) ≡ spec.entries_fit (shapes_of l.shapes) (pure_type l.key) (pure_type l.want) (entries_of (map pure_entry l.entries))

abbrev pub invariant-fields_fit-loop-i : goal.invariant-fields_fit-loop-i
invariant-fields_fit-loop-i l =
    spec.fields_fit (shapes_of l.shapes) (map shape.pure_field (drop l.i l.declared)) (fields_of (map pure_field (drop l.i l.fields))) ≡ spec.fields_fit (shapes_of l.shapes) (map shape.pure_field l.declared) (fields_of (map pure_field l.fields))
