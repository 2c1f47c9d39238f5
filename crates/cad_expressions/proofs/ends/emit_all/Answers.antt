use Rattle.std.proofs.Common.{List, ap, map, subst, sym, ◌∙◌}
use Rattle.std.proofs.lemmas.List.{nil_from_length}
use Rattle.std.specs.Vec.Iter.{into_iter_items}
use Rattle.cad_evaluation.specs.Ending.{all_emitted}
use Rattle.cad_rows.specs.Views.{pure_tree}
use Rattle.cad_world.specs.Rows.{Tree}
use Rattle.cad_expressions.specs.Code.Ending.{HasEmitted}
use Rattle.cad_expression_leaves.specs.Views.{trees_of}
use Rattle.cad_expressions.proofs.Destroying.{emission_ends}
use Rattle.cad_expressions.proofs.ends.emit_all.Goals as goal

pub loop-event-preserved : goal.loop-event-preserved
loop-event-preserved c = c.emit_next-emitted.ensures (all_emitted (trees_of c.args.events)) c.args.state.now (map pure_tree (into_iter_items c.next.new.self))
    (subst (λ (q : List Tree). HasEmitted (all_emitted (trees_of c.args.events)) c.args.state.now q c.loop-event.state c.loop-event.emitted) (ap (map pure_tree) c.in-Some.ensures.items) c.loop-event.invariant)

pub returns : goal.returns
returns c = emission_ends (all_emitted (trees_of c.args.events)) c.args.state.now (map pure_tree (into_iter_items c.loop-event.left)) c.loop-event.state c.loop-event.emitted
    (ap (map pure_tree) (nil_from_length (into_iter_items c.loop-event.left) (sym c.loop-event.left.rest.ok.0 ∙ c.in_default.ensures.cases.0))) c.loop-event.invariant
