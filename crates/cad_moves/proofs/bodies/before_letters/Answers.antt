use Rattle.std.proofs.Common.{rules, ◌≡◌, drop, [], map, ◌∙◌, arith}
use Rattle.std.proofs.lemmas.List.{drop_all}
use Rattle.cad_moves.specs.Views.{item_of, reading_of}
use Rattle.cad_moves.proofs.Rows.{over_end}
use Rattle.cad_moves.proofs.Turns.{before_step}
use Rattle.cad_moves.proofs.bodies.before_letters.Goals as goal

pub loop-before-preserved : goal.loop-before-preserved
loop-before-preserved c =
    c.in_ok-push_do.ensures _
    ∙ before_step (reading_of c.args.reading.now) c.args.part c.args.all.now c.loop-before.before-index c.before-item.result (search rules) c.before-item.is (map item_of c.loop-before.items.items) _ _ c.in_ok-body.ensures c.loop-before.invariant

pub returns : goal.returns
returns c =
    let n : drop c.loop-before.before-index c.args.all.now ≡ [] = drop_all c.loop-before.before-index c.args.all.now (omega arith) in
    c.block.ensures ∙ over_end c.loop-before.items.items ∙ (rw n at c.loop-before.invariant)
