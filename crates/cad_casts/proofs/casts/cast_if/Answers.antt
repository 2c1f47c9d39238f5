use Rattle.cad_casts.proofs.CastLaws.{cast_passes, cast_stops, cast_refused}
use Rattle.cad_rows.specs.Views.{pure_tree}
use Rattle.cad_state.specs.Views.{state_over}
use Rattle.cad_syntax.specs.Types.{pure_type}
use Rattle.cad_casts.proofs.casts.cast_if.Goals as goal

pub returns-in-Ok : goal.returns-in-Ok
returns-in-Ok c = λ w.
    cast_passes c.args.kind (pure_type c.args.wanted.now) (pure_tree c.args.tree) c.args.passes c.in-Ok.own (state_over w c.args.state.now) (state_over w c.transfer.new.self) c.hand.result
    c.if-passes.true (c.in-Ok.ensures w) c.hand.ensures

pub returns-in-Err : goal.returns-in-Err
returns-in-Err c = λ w. cast_stops c.args.kind (pure_type c.args.wanted.now) (pure_tree c.args.tree) c.args.passes (state_over w c.args.state.now) c.in-Err.stop c.if-passes.true (c.in-Err.ensures w)

pub returns-else-passes : goal.returns-else-passes
returns-else-passes c = λ w. cast_refused c.args.kind (pure_type c.args.wanted.now) (pure_tree c.args.tree) c.args.passes (state_over w c.args.state.now) c.refuse.result c.if-passes.false c.refuse.ensures
