use Rattle.cad_casts.specs.Code.Judged.{judged, cast_if}
use Rattle.cad_outcomes.proofs.Steps.{then, stops_on}
use Rattle.cad_rows.specs.Views.{pure_tree}
use Rattle.cad_state.specs.Views.{state_over}
use Rattle.cad_syntax.specs.Types.{pure_type}
use Rattle.cad_casts.proofs.casts.cast_from.Goals as goal

pub returns-in-Ok : goal.returns-in-Ok
returns-in-Ok c = λ w.
    let wanted = pure_type c.args.wanted.now in
    let s = state_over w c.args.state.now in
    then pure_tree (judged c.args.kind (pure_type c.args.own) wanted) (cast_if c.args.kind wanted (pure_tree c.args.tree)) c.in-Ok.passes s s (state_over w c.cast_if.new.state) c.cast_if.result
    (c.in-Ok.ensures w) (c.cast_if.ensures w)

pub returns-in-Err : goal.returns-in-Err
returns-in-Err c = λ w.
    let wanted = pure_type c.args.wanted.now in
    let s = state_over w c.args.state.now in
    stops_on (judged c.args.kind (pure_type c.args.own) wanted s) (cast_if c.args.kind wanted (pure_tree c.args.tree)) c.in-Err.stop (c.in-Err.ensures w)
