use Rattle.std.proofs.Common.{ℕ, suc, ◌∙◌, sym}
use Rattle.cad_rows.specs.Views.{pure_tree}
use Rattle.cad_world.specs.Rows as rows
use Rattle.cad_containers.proofs.Changing.{array_changed}
use Rattle.cad_containers.proofs.array_changes.add_at.Goals as goal

pub returns-then-has_room_for_one : goal.returns-then-has_room_for_one
returns-then-has_room_for_one c = λ type.
    array_changed c.args.label type c.args.count (λ (n : ℕ). suc n) (rows.add_last (pure_tree c.args.tree)) c.args.state.now c.add_in-done.new.state c.add_in-done.result c.voided.result (sym c.has_room_for_one.ensures ∙ c.if-has_room_for_one.true) c.voided.ensures c.add_in-done.ensures
