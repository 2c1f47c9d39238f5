use Rattle.std.proofs.Common.{ℕ, ◌+◌, ◌∙◌, nat_le, sym, ap}
use Rattle.cad_evaluation.specs.Containers as spec
use Rattle.cad_rows.specs.Views.{pure_row}
use Rattle.cad_state.specs.Views.{state_over}
use Rattle.cad_syntax.specs.Types.{pure_type}
use Rattle.cad_values.specs.Fits.{most_elements}
use Rattle.cad_world.specs.Rows as rows
use Rattle.cad_containers.proofs.Changing.{room_then, array_crowded}
use Rattle.cad_containers.proofs.concat.joined_with_room.Goals as goal

pub returns-then-has_room_for : goal.returns-then-has_room_for
returns-then-has_room_for c =
    let type = pure_type c.args.element.now in
    room_then c.args.label type c.args.count (λ (n : ℕ). n + rows.count_places (pure_row c.args.more.now)) (λ (parts : rows.Row). spec.array_copy type (rows.join parts (pure_row c.args.more.now))) c.args.state.now c.joined_at.new.state c.joined_at.result
    (ap (λ (m : ℕ). nat_le (c.args.count + m) most_elements) (sym c.count_places.ensures) ∙ sym c.has_room_for.ensures ∙ c.if-has_room_for.true) (c.joined_at.ensures c.args.count)

pub returns : goal.returns
returns c = λ accounts ready f here known.
    let type = pure_type c.args.element.now in
    array_crowded c.args.count (λ (n : ℕ). n + rows.count_places (pure_row c.args.more.now)) (λ (parts : rows.Row). spec.array_copy type (rows.join parts (pure_row c.args.more.now))) f.tree.parts (state_over accounts c.args.state.now)
    (ap (λ (m : ℕ). nat_le (c.args.count + m) most_elements) (sym c.count_places.ensures) ∙ sym c.has_room_for.ensures ∙ c.if-has_room_for.false) known.1
