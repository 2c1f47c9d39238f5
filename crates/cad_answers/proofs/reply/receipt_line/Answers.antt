use Rattle.std.proofs.Common.{◌∙◌, ap}
use Rattle.std.specs.Prelude.{List, ℕ}
use Rattle.serde_json.specs.Data.{array}
use Rattle.serde_json.specs.Written.{compact_text}
use Rattle.cad_answers.specs.Answer.{number_items}
use Rattle.cad_serve_parts.proofs.Results.{if_ok}
use Rattle.cad_answers.proofs.Receipts.{receipt_told}
use Rattle.cad_answers.proofs.reply.receipt_line.Goals as goal

-- the texts are those that were handed on (`as_str`), of the numbers that were handed on (`as_slice`)
pub returns : goal.returns
returns c =
    let of = λ (ns : List ℕ). compact_text (array (number_items ns)) in
    if_ok c.effects_line.result (λ text is. receipt_told text c.as_str.result.now c.as_str-2.result.now c.as_str-3.result.now c.args.receipt.now is
    (c.as_str.ensures ∙ c.in_ok-destroyed.ensures ∙ ap of c.as_slice.ensures) c.as_str-2.ensures (c.as_str-3.ensures ∙ c.in_ok-made.ensures ∙ ap of c.as_slice-2.ensures)) c.effects_line.ensures
