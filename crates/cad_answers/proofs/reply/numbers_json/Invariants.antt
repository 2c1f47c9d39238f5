use Rattle.std.proofs.Common.{◌≡◌, ◌++◌, drop}
use Rattle.serde_json.specs.Data.{array}
use Rattle.serde_json.specs.Written.{compact_text, items_text}
use Rattle.cad_answers.specs.Answer.{number_items}
use Rattle.cad_answers.proofs.reply.numbers_json.Given as goal

-- the numbers so far and those to come
abbrev pub invariant-loop-number : goal.invariant-loop-number
invariant-loop-number l = l.text ++ items_text l.later (number_items (drop l.number-index l.numbers)) ≡ compact_text (array (number_items l.numbers))
