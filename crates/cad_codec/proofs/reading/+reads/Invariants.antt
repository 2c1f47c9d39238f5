use Rattle.std.proofs.Common.{◌≡◌, ◌+◌, ◌-◌, ◌*◌, map}
use Rattle.cad_values.specs.Values.{pure_value, pure_entry, pure_field}
use Rattle.cad_codec.specs.Code.Fields.{members_at}
use Rattle.cad_codec.specs.Code.Values.{value_at, entry_at, field_at}
use Rattle.cad_codec.proofs.Members.{with_front}
use Rattle.cad_codec.proofs.reading.+reads.Given as goal

abbrev pub decreases-read_value : goal.decreases-read_value
decreases-read_value l = 5 * l.left

abbrev pub decreases-read_optional : goal.decreases-read_optional
decreases-read_optional l = 5 * l.inner + 1

abbrev pub decreases-read_array : goal.decreases-read_array
decreases-read_array l = 5 * l.inner + 4

abbrev pub decreases-read_dictionary : goal.decreases-read_dictionary
decreases-read_dictionary l = 5 * l.inner + 4

abbrev pub decreases-read_list : goal.decreases-read_list
decreases-read_list l = 5 * l.inner + 3

abbrev pub decreases-read_keyed : goal.decreases-read_keyed
decreases-read_keyed l = 5 * l.inner + 3

abbrev pub decreases-read_composite : goal.decreases-read_composite
decreases-read_composite l = 5 * l.inner + 3

abbrev pub decreases-read_values : goal.decreases-read_values
decreases-read_values l = 5 * l.inner + 2

abbrev pub decreases-read_entries : goal.decreases-read_entries
decreases-read_entries l = 5 * l.inner + 2

abbrev pub decreases-read_fields : goal.decreases-read_fields
decreases-read_fields l = 5 * l.inner + 2

abbrev pub decreases-read_entry : goal.decreases-read_entry
decreases-read_entry l = 5 * l.inner + 1

abbrev pub decreases-read_field : goal.decreases-read_field
decreases-read_field l = 5 * l.inner + 1

abbrev pub invariant-read_values-loop : goal.invariant-read_values-loop
invariant-read_values-loop l = with_front (map pure_value l.values) (members_at (value_at l.inner) (l.count - l.counter) l.reader) ≡ members_at (value_at l.inner) l.count l.fn.reader

abbrev pub invariant-read_entries-loop : goal.invariant-read_entries-loop
invariant-read_entries-loop l = with_front (map pure_entry l.entries) (members_at (entry_at (value_at l.inner)) (l.count - l.counter) l.reader) ≡ members_at (entry_at (value_at l.inner)) l.count l.fn.reader

abbrev pub invariant-read_fields-loop : goal.invariant-read_fields-loop
invariant-read_fields-loop l = with_front (map pure_field l.fields) (members_at (field_at (value_at l.inner)) (l.count - l.counter) l.reader) ≡ members_at (field_at (value_at l.inner)) l.count l.fn.reader
