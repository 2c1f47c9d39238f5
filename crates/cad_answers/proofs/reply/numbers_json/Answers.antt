use Rattle.std.proofs.Common.{List, ℕ, ◌++◌, false, get_or, ap, refl}
use Rattle.std.proofs.lemmas.List.{drop_more}
use Rattle.std.specs.Fmt.{decimal}
use Rattle.serde_json.specs.Data.{array, string}
use Rattle.serde_json.specs.Written.{compact_text, items_text}
use Rattle.cad_run_outcomes.proofs.Listing.{items_turn, items_end}
use Rattle.cad_answers.specs.Answer.{number_items}
use Rattle.cad_answers.proofs.reply.numbers_json.Goals as goal

pub loop-number-init : goal.loop-number-init
loop-number-init c = ap (λ (w : List ℕ). w ++ items_text false (number_items c.args.numbers.now)) c.in_ok-text.ensures

pub loop-number-preserved : goal.loop-number-preserved
loop-number-preserved c =
    items_turn (λ (n : ℕ). string (decimal n)) number_items c.loop-number.later c.args.numbers.now c.loop-number.number-index c.loop-number.text c.push_number.new.text (compact_text (array (number_items c.args.numbers.now)))
    (get_or c.args.numbers.now c.loop-number.number-index 0) (λ rest. refl) (drop_more c.args.numbers.now c.loop-number.number-index 0 c.loop-number-test.true) c.loop-number.invariant c.in_ok-push_number.ensures

pub returns : goal.returns
returns c =
    items_end (λ (n : ℕ). string (decimal n)) number_items c.loop-number.later c.args.numbers.now c.loop-number.number-index c.loop-number.text c.push_str.new.self (compact_text (array (number_items c.args.numbers.now)))
    refl c.loop-number-test.false c.loop-number.invariant c.in_ok-push_str.ensures.ok
