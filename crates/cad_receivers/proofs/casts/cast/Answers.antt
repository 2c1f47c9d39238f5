use Rattle.std.proofs.Common.{Err, Ok, None, Option, Some, option_map, subst}
use Rattle.cad_evaluation.specs.Casts.{cast}
use Rattle.cad_casts.specs.Code.Judged.{cast_from}
use Rattle.cad_labels.specs.Laws.{AnyOne}
use Rattle.cad_receivers.proofs.CastLaws.{cast_in_steps, stored_keeps}
use Rattle.cad_receivers.specs.Code.Casts.{cast_of_type, stored_type}
use Rattle.cad_rows.specs.Views.{pure_tree}
use Rattle.cad_state.proofs.Finding.{find_any, find_same, find_stopped, find_then}
use Rattle.cad_state.specs.Views.{state_over, FindsAndCarriesOut}
use Rattle.cad_syntax.specs.Types.{pure_type}
use Rattle.cad_syntax.specs.declared.types.CadType.{CadType}
use Rattle.cad_world.specs.State.{◌>>=◌}
use Rattle.cad_receivers.proofs.casts.cast.Goals as goal

pub returns-in-Ok-Some : goal.returns-in-Ok-Some
returns-in-Ok-Some c =
    let kind = c.args.kind in
    let wanted = pure_type c.args.wanted.now in
    let t = pure_tree c.args.tree in
    let x = c.args.state.now in
    let y = c.stored_type.new.state in
    let z = c.cast_from.new.state in
    find_same pure_tree (cast kind wanted t) (stored_type t >>= cast_of_type kind wanted t) x z c.cast_from.result (λ w ready. cast_in_steps kind wanted t (state_over w x))
    (find_then AnyOne (stored_type t) (stored_keeps t) (option_map pure_type) pure_tree (cast_of_type kind wanted t) (Some c.in-Ok-Some.own) x y z c.cast_from.result
    (subst (λ (o : Option CadType). FindsAndCarriesOut (option_map pure_type) (stored_type t) x y (Ok o)) c.in-Ok-Some.field-0-is c.in-Ok-Some.ensures)
    (λ u. find_any pure_tree (cast_from kind (pure_type c.in-Ok-Some.own) wanted t) y z c.cast_from.result c.cast_from.ensures))

pub returns-in-Ok-None : goal.returns-in-Ok-None
returns-in-Ok-None c =
    let kind = c.args.kind in
    let wanted = pure_type c.args.wanted.now in
    let t = pure_tree c.args.tree in
    let x = c.args.state.now in
    let y = c.stored_type.new.state in
    let z = c.own_cast.new.state in
    find_same pure_tree (cast kind wanted t) (stored_type t >>= cast_of_type kind wanted t) x z c.own_cast.result (λ w ready. cast_in_steps kind wanted t (state_over w x))
    (find_then AnyOne (stored_type t) (stored_keeps t) (option_map pure_type) pure_tree (cast_of_type kind wanted t) None x y z c.own_cast.result
    (subst (λ (o : Option CadType). FindsAndCarriesOut (option_map pure_type) (stored_type t) x y (Ok o)) c.in-Ok-None.field-0-is c.in-Ok-None.ensures) (λ u. c.own_cast.ensures))

pub returns-in-Err : goal.returns-in-Err
returns-in-Err c =
    let kind = c.args.kind in
    let wanted = pure_type c.args.wanted.now in
    let t = pure_tree c.args.tree in
    let x = c.args.state.now in
    let y = c.stored_type.new.state in
    find_same pure_tree (cast kind wanted t) (stored_type t >>= cast_of_type kind wanted t) x y (Err c.in-Err.stop) (λ w ready. cast_in_steps kind wanted t (state_over w x))
    (find_stopped (option_map pure_type) pure_tree (stored_type t) (cast_of_type kind wanted t) x y y c.in-Err.stop c.in-Err.ensures)
