use Rattle.std.proofs.Common.{◌≡◌, drop, map}
use Rattle.cad_json.specs.Forms as spec
use Rattle.cad_types.specs.Views.{declarations}
use Rattle.cad_values.specs.Values.{pure_value, pure_field, pure_entry, values_of, entries_of, fields_of}
use Rattle.cad_json_export.proofs.form.+forms.Given as goal

abbrev pub invariant-values_have_form-loop-value : goal.invariant-values_have_form-loop-value
invariant-values_have_form-loop-value l =
    spec.values_have_form (declarations l.kinds) (values_of (map pure_value (drop l.value-index l.values))) ≡ spec.values_have_form (declarations l.kinds) (values_of (map pure_value l.values))

abbrev pub invariant-entries_have_form-loop-entry : goal.invariant-entries_have_form-loop-entry
invariant-entries_have_form-loop-entry l =
    spec.entries_have_form (declarations l.kinds) (entries_of (map pure_entry (drop l.entry-index l.entries))) ≡ spec.entries_have_form (declarations l.kinds) (entries_of (map pure_entry l.entries))

abbrev pub invariant-fields_have_form-loop-field : goal.invariant-fields_have_form-loop-field
invariant-fields_have_form-loop-field l =
    spec.fields_have_form (declarations l.kinds) (fields_of (map pure_field (drop l.field-index l.fields))) ≡ spec.fields_have_form (declarations l.kinds) (fields_of (map pure_field l.fields))
