use Rattle.std.proofs.Common.{length, map}
use Rattle.cad_values.specs.Values.{pure_value, pure_entry, pure_field, values_of, entries_of, fields_of, elements, keys, names}
use Rattle.cad_codec.specs.ValueBytes as spec
use Rattle.cad_codec.proofs.Counts.{count_values, count_entries, count_fields, begun}
use Rattle.cad_codec.proofs.writing.+writes.Goals as goal

pub write_values-loop-value-init : goal.write_values-loop-value-init
write_values-loop-value-init t c =
    let vs = values_of (map pure_value c.args.values.now) in
    (begun c.args.writer.now c.write_length.new.writer (spec.values_bytes vs) (length c.args.values.now) (length (elements vs)) c.in_ok-write_length.ensures.ok (count_values c.args.values.now), λ x. x)

pub write_entries-loop-entry-init : goal.write_entries-loop-entry-init
write_entries-loop-entry-init t c =
    let es = entries_of (map pure_entry c.args.entries.now) in
    (begun c.args.writer.now c.write_length.new.writer (spec.entries_bytes es) (length c.args.entries.now) (length (keys es)) c.in_ok-write_length.ensures.ok (count_entries c.args.entries.now), λ x. x)

pub write_fields-loop-field-init : goal.write_fields-loop-field-init
write_fields-loop-field-init t c =
    let fs = fields_of (map pure_field c.args.fields.now) in
    (begun c.args.writer.now c.write_length.new.writer (spec.fields_bytes fs) (length c.args.fields.now) (length (names fs)) c.in_ok-write_length.ensures.ok (count_fields c.args.fields.now), λ x. x)
