use Rattle.std.proofs.Common.{◌≡◌, Bool}
use Rattle.std.specs.Prelude.{codes}
use Rattle.std.proofs.lemmas.Result.{on_ok_weaker}
use Rattle.cad_values.specs.Values as v
use Rattle.cad_json_export.specs.Texts.{value_text, head}
use Rattle.cad_json_export.proofs.Laws.{true_text, false_text}
use Rattle.cad_json_export.proofs.Pushes.{two}
use Rattle.cad_json_export.proofs.writing.push_bool.Goals as goal

pub returns-then-b : goal.returns-then-b
returns-then-b c declared = on_ok_weaker c.push_str.result (λ e. two c.args.text.now (head (codes "Bool")) (codes "true}") c.in_ok-push_head.ensures e (rw c.if-b.true (true_text declared))) c.push_str.ensures.ok

pub returns : goal.returns
returns c declared = on_ok_weaker c.push_str-2.result (λ e. two c.args.text.now (head (codes "Bool")) (codes "false}") c.in_ok-push_head.ensures e (rw c.if-b.false (false_text declared))) c.push_str-2.ensures.ok
