use Rattle.std.proofs.Common.{◌≡◌, ap, ◌∙◌, ◌++◌, List, ℕ, refl, sym}
use Rattle.std.specs.Prelude.{codes}
use Rattle.std.proofs.lemmas.Result.{on_ok_weaker}
use Rattle.cad_json.specs.Words.{sort_word}
use Rattle.cad_json_export.specs.Texts.{head, before_fields, identity_text}
use Rattle.cad_json_export.proofs.Laws.{before_fields_is}
use Rattle.cad_json_export.proofs.Pushes.{three}
use Rattle.cad_json_export.proofs.writing.push_before_fields.Goals as goal

pub returns-clause-text : goal.returns-clause-text
returns-clause-text c =
    on_ok_weaker c.push_identity.result
    (λ e. three c.args.text.now (head (sort_word c.args.sort)) (codes "{\"fields\":[") (identity_text c.args.sort c.args.identity)
    (c.in_ok-push_head.ensures ∙ ap (λ (w : List ℕ). c.args.text.now ++ head w) c.sort_word-word.ensures) c.in_ok-push_str.ensures.ok e (before_fields_is c.args.sort c.args.identity))
    c.push_identity.ensures.text
