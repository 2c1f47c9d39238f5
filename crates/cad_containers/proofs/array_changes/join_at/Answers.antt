use Rattle.std.proofs.Common.{ℕ, ◌+◌, ◌∙◌, nat_le, sym, ap}
use Rattle.cad_values.specs.Fits.{most_elements}
use Rattle.cad_rows.specs.Views.{pure_row}
use Rattle.cad_world.specs.Rows as rows
use Rattle.cad_containers.proofs.Changing.{array_changed}
use Rattle.cad_containers.proofs.array_changes.join_at.Goals as goal

pub returns-then-has_room_for : goal.returns-then-has_room_for
returns-then-has_room_for c = λ type.
    array_changed c.args.label type c.args.count (λ (n : ℕ). n + rows.count_places (pure_row c.args.row.items)) (λ (parts : rows.Row). rows.join parts (pure_row c.args.row.items)) c.args.state.now c.join_in-done.new.state c.join_in-done.result c.voided.result (ap (λ (m : ℕ). nat_le (c.args.count + m) most_elements) (sym (c.count_places.ensures ∙ ap (λ ps. rows.count_places (pure_row ps)) c.as_slice.ensures.value)) ∙ sym c.has_room_for.ensures ∙ c.if-has_room_for.true) c.voided.ensures c.join_in-done.ensures
