use Rattle.std.specs.Prelude.{option_map}
use Rattle.std.proofs.Common.{ℕ, Some, subst}
use Rattle.cad_evaluation.specs.Standing.{Standing, field_of, named_spot, without}
use Rattle.cad_locations.specs.Views.{location_of, tree_seen}
use Rattle.cad_rows.specs.Views.{pure_row, pure_shape}
use Rattle.cad_world.specs.Locations.{read}
use Rattle.cad_standing.specs.Actions.{and_then}
use Rattle.cad_standing.specs.declared.fields.FieldPlace.{FieldPlace}
use Rattle.cad_standing.specs.Code.Plans.{PlansAnywhere, field_named}
use Rattle.cad_standing.proofs.Composing.{seen_plan_twice, stopped_twice}
use Rattle.cad_standing.proofs.fields.field_settled.Goals as goal

pub returns-in-Ok-Some : goal.returns-in-Ok-Some
returns-in-Ok-Some c = λ writes rights.
    let x = location_of c.args.location.now in
    let seen = c.in-Ok-Some.seen in
    let parts = pure_row c.in-Ok-Some.seen.parts.now in
    seen_plan_twice tree_seen (λ (f : FieldPlace). field_named writes c.args.field.now rights x f.id f.index) (read x) (λ t. named_spot rights x (without c.args.inside t)) (field_of writes c.args.field.now)
    c.in-Ok-Some.field-0 c.in-Ok-Some.seen c.args.state.now c.field_lent.result c.in-Ok-Some.ensures c.in-Ok-Some.field-0-is
    (subst (λ (n : ℕ). PlansAnywhere (λ (f : FieldPlace). field_named writes c.args.field.now rights x f.id f.index)
    (and_then (named_spot rights x (Some (record { optionals = n; shape = pure_shape seen.shape.now; parts = parts }))) (field_of writes c.args.field.now)) c.field_lent.result)
    c.optionals_left.ensures (c.field_lent.ensures writes rights x parts))

pub returns-in-Err : goal.returns-in-Err
returns-in-Err c = λ writes rights.
    let x = location_of c.args.location.now in
    stopped_twice {D = Standing} (option_map tree_seen) (λ t. t) (read x) (λ t. named_spot rights x (without c.args.inside t)) (field_of writes c.args.field.now) c.args.state.now c.args.state.now c.in-Err.stop c.in-Err.ensures
