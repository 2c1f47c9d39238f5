use Rattle.std.proofs.Common.{◌-◌, map, arith}
use Rattle.std.proofs.lemmas.Result.{err_from_is_err_and}
use Rattle.cad_values.specs.Values.{pure_value, pure_entry, pure_field}
use Rattle.cad_codec.specs.Code.Fields.{members_at}
use Rattle.cad_codec.specs.Code.Values.{value_at, entry_at, field_at}
use Rattle.cad_codec.proofs.Members.{goes_on_seen, ends, is_done}
use Rattle.cad_codec.specs.declared.form.ValueForm.TheVariants.{Composite}
use Rattle.cad_codec.proofs.Steps.{value_step}
use Rattle.cad_codec.proofs.reading.+reads.Goals as goal

pub read_value-returns-in-Composite : goal.read_value-returns-in-Composite
read_value-returns-in-Composite t c =
    let step = value_step c.args.left (c.args.left - 1) c.args.reader.now c.read_form.new.reader c.in_ok-read_form.field-0 Composite (omega (arith, c.if-left-eq0.false)) c.in_ok-read_form.ensures c.in-Composite.is in
    rw step c.read_composite.ensures

pub read_values-returns-in_err-value : goal.read_values-returns-in_err-value
read_values-returns-in_err-value t c =
    let p = err_from_is_err_and c.from_residual.result c.from_residual.ensures.1 in
    rw (p.1, p.2) (ends pure_value (map pure_value) c.in_err-value.field-0.0 (value_at c.args.inner) (map pure_value c.loop.values) c.args.count c.loop.counter c.loop.reader c.read_value.new.reader c.read_value.new.reader (members_at (value_at c.args.inner) c.args.count c.args.reader.now) c.loop-test.true c.in_err-value.ensures c.loop.invariant)

pub read_values-loop-preserved : goal.read_values-loop-preserved
read_values-loop-preserved t c =
    goes_on_seen pure_value (value_at c.args.inner) c.loop.values c.push.new.self c.args.count c.loop.counter c.loop.reader c.in_ok-value.value c.read_value.new.reader (members_at (value_at c.args.inner) c.args.count c.args.reader.now) c.loop-test.true c.in_ok-value.ensures c.in_ok-push.ensures.ok c.loop.invariant

pub read_values-returns : goal.read_values-returns
read_values-returns t c = is_done (value_at c.args.inner) (map pure_value c.loop.values) c.args.count c.loop.counter c.loop.reader (members_at (value_at c.args.inner) c.args.count c.args.reader.now) c.loop-test.false c.loop.invariant

pub read_entries-returns-in_err-entry : goal.read_entries-returns-in_err-entry
read_entries-returns-in_err-entry t c =
    let p = err_from_is_err_and c.from_residual.result c.from_residual.ensures.1 in
    rw (p.1, p.2) (ends pure_entry (map pure_entry) c.in_err-entry.field-0.0 (entry_at (value_at c.args.inner)) (map pure_entry c.loop.entries) c.args.count c.loop.counter c.loop.reader c.read_entry.new.reader c.read_entry.new.reader (members_at (entry_at (value_at c.args.inner)) c.args.count c.args.reader.now) c.loop-test.true c.in_err-entry.ensures c.loop.invariant)

pub read_entries-loop-preserved : goal.read_entries-loop-preserved
read_entries-loop-preserved t c =
    goes_on_seen pure_entry (entry_at (value_at c.args.inner)) c.loop.entries c.push.new.self c.args.count c.loop.counter c.loop.reader c.in_ok-entry.entry c.read_entry.new.reader (members_at (entry_at (value_at c.args.inner)) c.args.count c.args.reader.now) c.loop-test.true c.in_ok-entry.ensures c.in_ok-push.ensures.ok c.loop.invariant

pub read_entries-returns : goal.read_entries-returns
read_entries-returns t c = is_done (entry_at (value_at c.args.inner)) (map pure_entry c.loop.entries) c.args.count c.loop.counter c.loop.reader (members_at (entry_at (value_at c.args.inner)) c.args.count c.args.reader.now) c.loop-test.false c.loop.invariant

pub read_fields-returns-in_err-field : goal.read_fields-returns-in_err-field
read_fields-returns-in_err-field t c =
    let p = err_from_is_err_and c.from_residual.result c.from_residual.ensures.1 in
    rw (p.1, p.2) (ends pure_field (map pure_field) c.in_err-field.field-0.0 (field_at (value_at c.args.inner)) (map pure_field c.loop.fields) c.args.count c.loop.counter c.loop.reader c.read_field.new.reader c.read_field.new.reader (members_at (field_at (value_at c.args.inner)) c.args.count c.args.reader.now) c.loop-test.true c.in_err-field.ensures c.loop.invariant)

pub read_fields-loop-preserved : goal.read_fields-loop-preserved
read_fields-loop-preserved t c =
    goes_on_seen pure_field (field_at (value_at c.args.inner)) c.loop.fields c.push.new.self c.args.count c.loop.counter c.loop.reader c.in_ok-field.field c.read_field.new.reader (members_at (field_at (value_at c.args.inner)) c.args.count c.args.reader.now) c.loop-test.true c.in_ok-field.ensures c.in_ok-push.ensures.ok c.loop.invariant

pub read_fields-returns : goal.read_fields-returns
read_fields-returns t c = is_done (field_at (value_at c.args.inner)) (map pure_field c.loop.fields) c.args.count c.loop.counter c.loop.reader (members_at (field_at (value_at c.args.inner)) c.args.count c.args.reader.now) c.loop-test.false c.loop.invariant
