-- What is done to a node, as the program has it: to its shape, to its parts, and what leaves it.
use Rattle.std.specs.Prelude.{ℕ, Option, None, Result, Ok, Err}
use Rattle.cad_nodes.specs.Keys.{with_key, without_key}
use Rattle.cad_nodes.specs.declared.edit.Edit.{Edit}
use Rattle.cad_nodes.specs.declared.edit.Edit.TheVariants as e
use Rattle.cad_outcomes.specs.declared.stop.Stop.{Stop}
use Rattle.cad_rows.specs.Places.{bare_in}
use Rattle.cad_rows.specs.Views.{pure_row, pure_tree}
use Rattle.cad_rows.specs.declared.tree.Tree as t
use Rattle.cad_values.specs.Values.{pure_value}
use Rattle.cad_world.specs.Labels.{with_node}
use Rattle.cad_world.specs.Locations.{with_found}
use Rattle.cad_world.specs.Rows.{NodeShape, Row, Tree, slot, named, put, clear, cut, wedge, add_last, join}
use Rattle.cad_world.specs.State.{Action, ok}

abbrev pub edited_shape : Edit → NodeShape → NodeShape
edited_shape (e.AddKey key t) s = with_key (pure_value key) s
edited_shape (e.DropKey i) s = without_key i s
edited_shape _ s = s

abbrev pub edited_parts : Edit → Row → Row
edited_parts (e.Name i p) r = named i p r
edited_parts (e.Put i t) r = put i (pure_tree t) r
edited_parts (e.Clear i) r = clear i r
edited_parts (e.Cut i) r = cut i r
edited_parts (e.Wedge i t) r = wedge i (pure_tree t) r
edited_parts (e.Add t) r = add_last (pure_tree t) r
edited_parts (e.Join row) r = join r (pure_row row.items)
edited_parts (e.AddKey key t) r = add_last (pure_tree t) r
edited_parts (e.DropKey i) r = cut i r

abbrev pub left_by : Edit → Row → Option Tree
left_by (e.Put i t) r = bare_in (slot i r)
left_by (e.Clear i) r = bare_in (slot i r)
left_by (e.Cut i) r = bare_in (slot i r)
left_by (e.DropKey i) r = bare_in (slot i r)
left_by _ r = None

-- the node with a label is changed so
abbrev pub changing : ℕ → Edit → Action (Option Tree)
changing l x = with_found l (λ f s. ok (left_by x f.tree.parts) (with_node l (edited_shape x f.tree.shape) (edited_parts x f.tree.parts) s))

-- a call whose value is let go
abbrev pub without_value : Result (Option t.Tree) Stop → Result (Unit {0}) Stop
without_value (Ok o) = Ok tt
without_value (Err stop) = Err stop
