use Rattle.std.proofs.Common.{◌≡◌, Some, subst, ◌∙◌}
use Rattle.std.specs.Prelude.{Err}
use Rattle.cad_codec.specs.Answers.{GivesAs}
use Rattle.cad_codec.specs.Forms.{TypeHasBytes}
use Rattle.cad_codec.specs.TypeBytes.{type_bytes}
use Rattle.cad_syntax.specs.Types.{pure_type}
use Rattle.cad_wire.specs.declared.error.DecodeError.{DecodeError}
use Rattle.cad_world_checks.proofs.ReadBack.{again, damaged}
use Rattle.cad_world_checks.proofs.bytes.type_has_bytes.Goals as goal

pub returns-in-Ok : goal.returns-in-Ok
returns-in-Ok c =
    let x = pure_type c.args.t.now in
    let bytes : c.as_slice.result.now ≡ type_bytes x = c.as_slice.ensures ∙ c.in_ok-bytes.ensures.ok in
    again TypeHasBytes x (pure_type c.in-Ok.again) c.is_that_type.result c.in-Ok.ensures.found.0 (λ has. c.in-Ok.ensures.only x has bytes) c.is_that_type.ensures

pub returns-in-Err-Damaged : goal.returns-in-Err-Damaged
returns-in-Err-Damaged c =
    let x = pure_type c.args.t.now in
    let bytes : c.as_slice.result.now ≡ type_bytes x = c.as_slice.ensures ∙ c.in_ok-bytes.ensures.ok in
    damaged TypeHasBytes x (λ has. subst (λ (e : DecodeError). GivesAs pure_type (Err e) (Some x)) c.in-Err-Damaged.field-0-is (c.in-Err-Damaged.ensures.only x has bytes))
