use Rattle.std.proofs.Common.{◌≡◌, ap, ◌∙◌, ◌++◌, List, ℕ, refl}
use Rattle.std.specs.Prelude.{codes}
use Rattle.std.proofs.lemmas.Result.{on_ok_weaker}
use Rattle.std.specs.Fmt.{decimal}
use Rattle.cad_json_export.specs.Texts.{quotation}
use Rattle.cad_json_export.proofs.Pushes.{three}
use Rattle.cad_json_export.proofs.writing.push_uuid.Goals as goal

pub returns : goal.returns
returns c =
    on_ok_weaker c.push_str-2.result
    (λ e. three c.args.text.now (codes "{\"name\":\"uuid\",\"value\":{\"type\":\"UInt64\",\"value\":") (quotation (decimal c.args.identity)) (codes "}}")
    c.in_ok-push_str.ensures.ok (c.in_ok-push_quoted.ensures ∙ ap (λ (w : List ℕ). c.push_str.new.self ++ quotation w) (c.as_str.ensures.value ∙ c.in_ok-digits.ensures.ok)) e refl)
    c.push_str-2.ensures.ok
