use Rattle.std.proofs.Common.{◌≡◌, ap, ◌∙◌, ◌++◌, List, ℕ}
use Rattle.std.specs.Prelude.{codes}
use Rattle.std.proofs.lemmas.Result.{on_ok_weaker}
use Rattle.cad_json.specs.Words.{domain_word}
use Rattle.cad_values.specs.Values as v
use Rattle.cad_json_export.specs.Texts.{value_text, head, quotation}
use Rattle.cad_json_export.proofs.Laws.{path_text}
use Rattle.cad_json_export.proofs.Pushes.{six}
use Rattle.cad_json_export.proofs.writing.push_path.Goals as goal

pub returns : goal.returns
returns c declared =
    let p = c.args.path.now in
    on_ok_weaker c.push_str-4.result
    (λ e. six c.args.text.now (head (codes "Path")) (codes "{\"domain\":\"") (domain_word p.domain) (codes "\",\"identifier\":") (quotation p.identifier.0) (codes "}}")
    c.in_ok-push_head.ensures c.in_ok-push_str.ensures.ok (c.in_ok-push_str-2.ensures.ok ∙ ap (λ (w : List ℕ). c.push_str.new.self ++ w) c.domain_word-word.ensures) c.in_ok-push_str-3.ensures.ok (c.in_ok-push_quoted.ensures ∙ ap (λ (w : List ℕ). c.push_str-3.new.self ++ quotation w) c.as_str.ensures) e (path_text declared p))
    c.push_str-4.ensures.ok
