use Rattle.std.proofs.Common.{◌≡◌, ◌+◌, ◌*◌, drop, map}
use Rattle.serde_json.specs.View.{view}
use Rattle.cad_shapes.specs.Views.{pure_field}
use Rattle.cad_syntax.specs.Types.{pure_type}
use Rattle.cad_values.specs.Values.{pure_value, pure_entry}
use Rattle.cad_values.specs.Values as v
use Rattle.cad_json_read.specs.Judged.{known_of}
use Rattle.cad_json_read.specs.Reading.{each, value_of, entry_at, field_of}
use Rattle.cad_json_read.proofs.Lists.{with_front}
use Rattle.cad_json_read.proofs.reading.+reads.Given as goal

abbrev pub decreases-read_value : goal.decreases-read_value
decreases-read_value l = 10 * l.left

abbrev pub decreases-read_form : goal.decreases-read_form
decreases-read_form l = 10 * l.inner + 9

abbrev pub decreases-read_optional : goal.decreases-read_optional
decreases-read_optional l = 10 * l.inner + 8

abbrev pub decreases-read_array : goal.decreases-read_array
decreases-read_array l = 10 * l.inner + 8

abbrev pub decreases-read_dictionary : goal.decreases-read_dictionary
decreases-read_dictionary l = 10 * l.inner + 8

abbrev pub decreases-read_composite : goal.decreases-read_composite
decreases-read_composite l = 10 * l.inner + 8

abbrev pub decreases-read_declared : goal.decreases-read_declared
decreases-read_declared l = 10 * l.inner + 7

abbrev pub decreases-read_fields : goal.decreases-read_fields
decreases-read_fields l = 10 * l.inner + 6

abbrev pub decreases-read_each_field : goal.decreases-read_each_field
decreases-read_each_field l = 10 * l.inner + 5

abbrev pub decreases-read_field : goal.decreases-read_field
decreases-read_field l = 10 * l.inner + 4

abbrev pub decreases-read_values : goal.decreases-read_values
decreases-read_values l = 10 * l.inner + 3

abbrev pub decreases-read_entries : goal.decreases-read_entries
decreases-read_entries l = 10 * l.inner + 3

abbrev pub decreases-read_entry : goal.decreases-read_entry
decreases-read_entry l = 10 * l.inner + 2

abbrev pub invariant-read_values-loop-json : goal.invariant-read_values-loop-json
invariant-read_values-loop-json l = with_front (map pure_value l.values.items) (each (value_of (known_of l.shapes) l.inner (pure_type l.want)) (map view (drop l.json-index l.all))) ≡ each (value_of (known_of l.shapes) l.inner (pure_type l.want)) (map view l.all)

abbrev pub invariant-read_entries-loop-json : goal.invariant-read_entries-loop-json
invariant-read_entries-loop-json l = with_front (map pure_entry l.entries.items) (each (entry_at (value_of (known_of l.shapes) l.inner) (pure_type l.key_want) (pure_type l.value_want)) (map view (drop l.json-index l.all))) ≡ each (entry_at (value_of (known_of l.shapes) l.inner) (pure_type l.key_want) (pure_type l.value_want)) (map view l.all)

abbrev pub invariant-read_each_field-loop-field : goal.invariant-read_each_field-loop-field
invariant-read_each_field-loop-field l = with_front (map v.pure_field l.found.items) (each (field_of (value_of (known_of l.shapes) l.inner) (map view l.all)) (map pure_field (drop l.field-index l.fields))) ≡ each (field_of (value_of (known_of l.shapes) l.inner) (map view l.all)) (map pure_field l.fields)
