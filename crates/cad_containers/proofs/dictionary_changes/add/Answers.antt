use Rattle.std.proofs.Common.{sym, ◌∙◌}
use Rattle.cad_rows.specs.Views.{pure_tree}
use Rattle.cad_state.specs.Views.{state_over}
use Rattle.cad_values.specs.Values.{pure_value}
use Rattle.cad_containers.proofs.KeyChanges.{added_value, keys_crowded}
use Rattle.cad_containers.proofs.dictionary_changes.add.Goals as goal

pub returns-then-has_room_for_one : goal.returns-then-has_room_for_one
returns-then-has_room_for_one c = λ kt vt k same.
    added_value c.args.label kt vt c.args.count (pure_value c.args.key) k (pure_tree c.args.tree) c.args.state.now c.add_key-done.new.state c.add_key-done.result c.nil_for.result
    (sym c.has_room_for_one.ensures ∙ c.if-has_room_for_one.true) c.nil_for.ensures same c.add_key-done.ensures

pub returns : goal.returns
returns c = λ kt vt k same accounts ready f here known.
    keys_crowded c.args.label kt vt c.args.count k (pure_tree c.args.tree) f (state_over accounts c.args.state.now) (sym c.has_room_for_one.ensures ∙ c.if-has_room_for_one.false) known.1
