use Rattle.std.specs.Prelude.{option_map}
use Rattle.std.proofs.Common.{ℕ, Some, subst}
use Rattle.cad_evaluation.specs.Casts.{borrowed}
use Rattle.cad_evaluation.specs.Standing.{without}
use Rattle.cad_locations.specs.Views.{location_of, tree_seen}
use Rattle.cad_rows.specs.Views.{pure_row, pure_shape}
use Rattle.cad_state.proofs.Finding.{find_stopped}
use Rattle.cad_world.specs.Locations.{read}
use Rattle.cad_world.specs.Rows.{Tree}
use Rattle.cad_standing.specs.Code.Plans.{PlansAnywhere, reference_by}
use Rattle.cad_standing.proofs.Composing.{seen_plan, none_plan}
use Rattle.cad_standing.proofs.references.sees_settled.Goals as goal

pub returns-in-Ok-Some : goal.returns-in-Ok-Some
returns-in-Ok-Some c = λ a.
    let x = location_of c.args.location.now in
    let seen = c.in-Ok-Some.seen in
    let parts = pure_row c.in-Ok-Some.seen.parts.now in
    seen_plan tree_seen (reference_by a x c.args.wraps) (read x) (λ t. borrowed a x c.args.one c.args.wraps (without c.args.inside t)) c.in-Ok-Some.field-0 c.in-Ok-Some.seen
    c.args.state.now c.sees_of.result c.in-Ok-Some.ensures c.in-Ok-Some.field-0-is
    (subst (λ (n : ℕ). PlansAnywhere (reference_by a x c.args.wraps) (borrowed a x c.args.one c.args.wraps (Some (record { optionals = n; shape = pure_shape seen.shape.now; parts = parts }))) c.sees_of.result)
    c.optionals_left.ensures (c.sees_of.ensures a x parts))

pub returns-in-Ok-None : goal.returns-in-Ok-None
returns-in-Ok-None c = λ a.
    let x = location_of c.args.location.now in
    none_plan tree_seen (reference_by a x c.args.wraps) (read x) (λ t. borrowed a x c.args.one c.args.wraps (without c.args.inside t)) c.in-Ok-None.field-0
    c.args.state.now c.sees_nothing.result c.in-Ok-None.ensures c.in-Ok-None.field-0-is (c.sees_nothing.ensures a x)

pub returns-in-Err : goal.returns-in-Err
returns-in-Err c = λ a.
    let x = location_of c.args.location.now in
    find_stopped {D = Tree} (option_map tree_seen) (λ t. t) (read x) (λ t. borrowed a x c.args.one c.args.wraps (without c.args.inside t))
    c.args.state.now c.args.state.now c.args.state.now c.in-Err.stop c.in-Err.ensures
