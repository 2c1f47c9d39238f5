use Rattle.std.proofs.Common.{rules, ◌≡◌, drop, [], ap, map, ◌∙◌, arith}
use Rattle.std.proofs.lemmas.List.{drop_all}
use Rattle.cad_paths.specs.Bodies.{unset_fields}
use Rattle.cad_moves.specs.Views.{body_of, item_of}
use Rattle.cad_moves.proofs.Rows.{over_end}
use Rattle.cad_pure.proofs.Settings.{unset_step}
use Rattle.cad_pure.proofs.initialisation.unset_fields.Goals as goal

pub loop-i-preserved : goal.loop-i-preserved
loop-i-preserved c = (
  c.in_ok-push_unset.ensures _
      ∙ unset_step c.args.fields.now c.loop-i.i c.index-fields-i.result c.args.at _ (search rules) c.index-fields-i.is (map item_of c.loop-i.items.items) _ c.loop-i.invariant.0,
  c.loop-i.invariant.1,
)

pub returns : goal.returns
returns c =
    let n : drop c.loop-i.i c.args.fields.now ≡ [] = drop_all c.loop-i.i c.args.fields.now (omega arith) in
    c.block.ensures ∙ over_end _ ∙ c.in_ok-push_last.ensures _ ∙ (rw n at c.loop-i.invariant).0
    ∙ ap (unset_fields 0 c.args.fields.now c.args.at) c.loop-i.invariant.1
