use Rattle.std.proofs.Common.{List, ℕ, ◌++◌, ap, ◌∙◌}
use Rattle.std.proofs.lemmas.Result.{on_ok_weaker}
use Rattle.serde_json.specs.Written.{comma_if}
use Rattle.cad_answers.proofs.reply.push_number.Goals as goal

pub returns : goal.returns
returns c = on_ok_weaker c.push_item.result (λ e. e ∙ ap (λ (w : List ℕ). c.args.text.now ++ (comma_if c.args.later ++ w)) (c.as_str.ensures ∙ c.in_ok-json.ensures)) c.push_item.ensures
