use Rattle.std.proofs.Common.{List, ℕ, ◌++◌, ap, ◌∙◌, append_assoc}
use Rattle.std.proofs.lemmas.Result.{on_ok_weaker}
use Rattle.serde_json.specs.Written.{comma_if}
use Rattle.cad_run_outcomes.proofs.events.push_item.Goals as goal

pub returns : goal.returns
returns c =
    on_ok_weaker c.push_str.result (λ e. e ∙ ap (λ (w : List ℕ). w ++ c.args.json.now) c.in_ok-push_comma.ensures ∙ append_assoc c.args.text.now (comma_if c.args.later) c.args.json.now) c.push_str.ensures.ok
