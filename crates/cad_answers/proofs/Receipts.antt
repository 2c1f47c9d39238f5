-- The line of a receipt.
use Rattle.std.proofs.Common.{◌≡◌, ℕ, List, [], ◌∷◌, ◌++◌, codes, sym, ap, ◌∙◌}
use Rattle.serde_json.specs.Data.{Data, array}
use Rattle.serde_json.specs.Written.{compact_text}
use Rattle.cad_runs.specs.Commands.{Reply}
use Rattle.cad_run_outcomes.specs.Views.{IsReceipt}
use Rattle.cad_run_outcomes.specs.declared.outcome.Receipt.{Receipt}
use Rattle.cad_answers.specs.Answer.{answer_line, number_items}

-- three texts in their places
abbrev pub placed : List ℕ → List ℕ → List ℕ → List ℕ
placed destroyed events made = codes "{\"destroyed\":" ++ destroyed ++ codes ",\"events\":" ++ events ++ codes ",\"made\":" ++ made ++ codes ",\"reply\":\"ok\"}" ++ 10 ∷ []

pub receipt_told : (text destroyed events made : List ℕ) (x : Receipt) → text ≡ placed destroyed events made → destroyed ≡ compact_text (array (number_items x.destroyed)) → events ≡ x.events
    → made ≡ compact_text (array (number_items x.made)) → (a : Reply Data) → IsReceipt x a → text ≡ answer_line a
receipt_told text destroyed events made x is gone told born a h =
    is ∙ (λ i. placed (gone i) ((told ∙ h.2) i) (born i)) ∙ sym (ap answer_line h.1)
