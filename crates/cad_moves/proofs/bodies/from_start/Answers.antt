use Rattle.std.proofs.Common.{rules, ◌≡◌, ◌+◌, drop, [], ap, map, ◌∙◌, arith}
use Rattle.std.proofs.lemmas.List.{drop_all}
use Rattle.cad_declarations.specs.Views.{variable_of}
use Rattle.cad_paths.specs.Bodies.{from_start}
use Rattle.cad_moves.specs.Views.{body_of, item_of}
use Rattle.cad_moves.proofs.Rows.{over_end}
use Rattle.cad_moves.proofs.Turns.{start_on, start_step}
use Rattle.cad_moves.proofs.bodies.from_start.Goals as goal

pub loop-variable-preserved : goal.loop-variable-preserved
loop-variable-preserved c = (
  c.in_ok-declare.ensures _
      ∙ start_on (map item_of c.loop-variable.items.items) _ (variable_of c.variable-item.result) c.args.at _ c.loop-variable.invariant.2
      ∙ start_step c.args.variables.now c.args.at _ c.loop-variable.variable-index c.variable-item.result (search rules) c.variable-item.is (map item_of c.loop-variable.items.items) _ c.loop-variable.invariant.0,
  c.loop-variable.invariant.1,
  c.loop-variable.invariant.2,
)

pub returns : goal.returns
returns c =
    let n : drop c.loop-variable.variable-index c.args.variables.now ≡ [] = drop_all c.loop-variable.variable-index c.args.variables.now (omega arith) in
    c.block.ensures ∙ over_end _ ∙ c.in_ok-push_last.ensures _ ∙ (rw n at c.loop-variable.invariant).0
    ∙ ap (from_start (map variable_of c.args.variables.now) c.args.at) c.loop-variable.invariant.1
