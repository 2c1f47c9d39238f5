use Rattle.std.proofs.Common.{rules, ◌≡◌, ◌+◌, drop, [], map, ◌∙◌, arith}
use Rattle.std.proofs.lemmas.List.{drop_all}
use Rattle.cad_paths.specs.Letters.{all_needed}
use Rattle.cad_moves.specs.Views.{item_of}
use Rattle.cad_moves.proofs.Rows.{over_end}
use Rattle.cad_moves.proofs.Turns.{needed_step}
use Rattle.cad_moves.proofs.leaf.all_needed.Goals as goal

pub loop-i-preserved : goal.loop-i-preserved
loop-i-preserved c =
    c.in_ok-push_do.ensures _ ∙ needed_step c.args.fields.now c.loop-i.i c.args.at (search rules) (map item_of c.loop-i.items.items) _ _ c.spelling.ensures c.loop-i.invariant

pub returns : goal.returns
returns c =
    let n : drop c.loop-i.i c.args.fields.now ≡ [] = drop_all c.loop-i.i c.args.fields.now (omega arith) in
    c.block.ensures ∙ over_end c.loop-i.items.items ∙ (rw n at c.loop-i.invariant)
