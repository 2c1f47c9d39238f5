use Rattle.std.specs.Prelude.{List}
use Rattle.std.proofs.Common.{ℕ}
use Rattle.std.specs.Str.{IsUtf8}
use Rattle.cadence_check.specs.Verdicts.{Replies, bad_text, no_json}
use Rattle.cadence_check.proofs.Told.{as_told}
use Rattle.cadence_check.proofs.reply.no_text.Goals as goal

pub returns : goal.returns
returns c =
    as_told c.bad_text.result (bad_text 21) (λ text. (line : List ℕ) → ¬ IsUtf8 line → Replies line text) c.bad_text.ensures (λ line none. no_json (λ d json. none json.utf8))
