use Rattle.std.proofs.Common.{rules, ◌≡◌, drop, [], map, ◌∙◌, arith}
use Rattle.std.proofs.lemmas.List.{drop_all}
use Rattle.cad_moves.specs.Views.{item_of, reading_of}
use Rattle.cad_moves.proofs.Rows.{over_end}
use Rattle.cad_moves.proofs.Turns.{conditions_step}
use Rattle.cad_moves.proofs.bodies.conditions_letters.Goals as goal

pub loop-condition-preserved : goal.loop-condition-preserved
loop-condition-preserved c =
    c.in_ok-push_do.ensures _
    ∙ conditions_step (reading_of c.args.reading.now) c.args.part c.args.all.now c.loop-condition.condition-index c.condition-item.result (search rules) c.condition-item.is (map item_of c.loop-condition.items.items) _ _ c.in_ok-body.ensures c.loop-condition.invariant

pub returns : goal.returns
returns c =
    let n : drop c.loop-condition.condition-index c.args.all.now ≡ [] = drop_all c.loop-condition.condition-index c.args.all.now (omega arith) in
    c.block.ensures ∙ over_end c.loop-condition.items.items ∙ (rw n at c.loop-condition.invariant)
