use Rattle.std.proofs.Common.{◌≡◌, Some, sym, subst, ◌∙◌}
use Rattle.std.specs.Prelude.{Err}
use Rattle.cad_codec.specs.Answers.{GivesAs}
use Rattle.cad_codec.specs.Forms.{HasBytes}
use Rattle.cad_codec.specs.ValueBytes.{value_bytes}
use Rattle.cad_values.specs.Values.{pure_value}
use Rattle.cad_wire.specs.declared.error.DecodeError.{DecodeError}
use Rattle.cad_world_checks.proofs.ReadBack.{no_bytes, again, damaged}
use Rattle.cad_world_checks.proofs.bytes.value_has_bytes.Goals as goal

pub returns-then-not-has_no_reference : goal.returns-then-not-has_no_reference
returns-then-not-has_no_reference c = no_bytes (pure_value c.args.value.now) (sym c.has_no_reference.ensures ∙ c.if-not-has_no_reference.true)

pub returns-in-Ok : goal.returns-in-Ok
returns-in-Ok c =
    let x = pure_value c.args.value.now in
    let bytes : c.as_slice.result.now ≡ value_bytes x = c.as_slice.ensures ∙ c.in_ok-bytes.ensures.ok in
    again HasBytes x (pure_value c.in-Ok.again) c.is_value.result c.in-Ok.ensures.found.0 (λ has. c.in-Ok.ensures.only x has bytes) c.is_value.ensures

pub returns-in-Err-Damaged : goal.returns-in-Err-Damaged
returns-in-Err-Damaged c =
    let x = pure_value c.args.value.now in
    let bytes : c.as_slice.result.now ≡ value_bytes x = c.as_slice.ensures ∙ c.in_ok-bytes.ensures.ok in
    damaged HasBytes x (λ has. subst (λ (e : DecodeError). GivesAs pure_value (Err e) (Some x)) c.in-Err-Damaged.field-0-is (c.in-Err-Damaged.ensures.only x has bytes))
