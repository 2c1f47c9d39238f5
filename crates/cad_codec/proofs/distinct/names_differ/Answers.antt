use Rattle.std.proofs.Common.{map, arith, subst, ◌∙◌}
use Rattle.cad_values.specs.Values.{pure_entry, pure_field, PureEntry, PureField}
use Rattle.cad_codec.specs.Code.Seen.{Adds}
use Rattle.cad_codec.specs.Code.Values.{key_bytes}
use Rattle.cad_codec.proofs.Seen.{differs, repeats}
use Rattle.cad_codec.proofs.Steps.{key_at, name_at_place}
use Rattle.cad_codec.proofs.distinct.names_differ.Goals as goal

pub returns-then-not-branch : goal.returns-then-not-branch
returns-then-not-branch c =
    let at = name_at_place c.args.fields.now c.loop-field.field-index c.field-item.result c.in_ok-name.name (omega arith) c.field-item.is c.in_ok-name.ensures in
    let added = subst (Adds c.loop-field.seen c.add_key.new.seen c.in_ok-name.name) c.if-not-branch.true c.in_ok-add_key.ensures in
    repeats c.loop-field.seen c.add_key.new.seen (map (λ (x : PureField). x.name.0) (map pure_field c.args.fields.now)) c.loop-field.field-index c.in_ok-name.name c.loop-field.invariant at added

pub loop-field-preserved : goal.loop-field-preserved
loop-field-preserved c =
    let at = name_at_place c.args.fields.now c.loop-field.field-index c.field-item.result c.in_ok-name.name (omega arith) c.field-item.is c.in_ok-name.ensures in
    let added = subst (Adds c.loop-field.seen c.add_key.new.seen c.in_ok-name.name) c.if-not-branch.false c.in_ok-add_key.ensures in
    differs c.loop-field.seen c.add_key.new.seen (map (λ (x : PureField). x.name.0) (map pure_field c.args.fields.now)) c.loop-field.field-index c.in_ok-name.name c.loop-field.invariant at added
