use Rattle.std.specs.Prelude.{option_map}
use Rattle.std.specs.Prelude.{Bool}
use Rattle.std.proofs.Common.{◌-◌, ℕ, subst}
use Rattle.cad_evaluation.specs.Changing.{content_of}
use Rattle.cad_evaluation.specs.Uses.{nil_of}
use Rattle.cad_evaluation.specs.Standing.{or_nil, without}
use Rattle.cad_locations.specs.Views.{location_of, tree_seen}
use Rattle.cad_outcomes.specs.Outcomes.{Gives}
use Rattle.cad_rows.specs.Views.{pure_row, pure_shape}
use Rattle.cad_state.proofs.Finding.{find_given, find_stopped}
use Rattle.cad_world.specs.Locations.{read}
use Rattle.cad_standing.proofs.Composing.{seen_then}
use Rattle.cad_standing.proofs.optionals.nil_settled.Goals as goal

pub returns-in-Ok-Some : goal.returns-in-Ok-Some
returns-in-Ok-Some c =
    let seen = c.in-Ok-Some.seen in
    let parts = pure_row c.in-Ok-Some.seen.parts.now in
    seen_then {D = Bool} tree_seen (λ b. b) (read (location_of c.args.location.now)) (λ t. nil_of (content_of (or_nil (without c.args.inside t)))) c.in-Ok-Some.field-0 c.in-Ok-Some.seen
    c.args.state.now c.args.state.now c.nil_of_lent.result c.in-Ok-Some.ensures c.in-Ok-Some.field-0-is
    (find_given {B = Bool} (λ b. b) (nil_of (content_of (record { optionals = seen.optionals - c.args.inside; shape = pure_shape seen.shape.now; parts = parts }))) c.args.state.now c.nil_of_lent.result
    (subst (λ (n : ℕ). Gives {B = Bool} (λ b. b) (nil_of (content_of (record { optionals = n; shape = pure_shape seen.shape.now; parts = parts }))) c.nil_of_lent.result) c.optionals_left.ensures (c.nil_of_lent.ensures parts)))

pub returns-in-Err : goal.returns-in-Err
returns-in-Err c =
    find_stopped {D = Bool} (option_map tree_seen) (λ b. b) (read (location_of c.args.location.now)) (λ t. nil_of (content_of (or_nil (without c.args.inside t))))
    c.args.state.now c.args.state.now c.args.state.now c.in-Err.stop c.in-Err.ensures
