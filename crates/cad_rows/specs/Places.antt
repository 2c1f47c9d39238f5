-- What the places of a row of the program are, one by one.
use Rattle.std.specs.Prelude.{ℕ, Bool, true, false, [], ◌∷◌, ◌++◌, Option, Some, None}
use Rattle.cad_world.specs.Rows as r
use Rattle.cad_rows.specs.Views.{PlaceView, vacant, taken, pure_tree}
use Rattle.cad_rows.specs.declared.access.Slot.{Slot}
use Rattle.cad_rows.specs.declared.access.Slot.TheVariants as slot

abbrev pub pure_slot : Slot → r.Slot
pure_slot slot.Out = r.out
pure_slot slot.Free = r.free
pure_slot (slot.Full t) = r.full (pure_tree t.now)

-- the node that leaves such a place has no label
abbrev pub bare_in : r.Slot → Option r.Tree
bare_in r.out = None
bare_in r.free = None
bare_in (r.full t) = Some (r.bare_tree t)

-- what stands in a place that is there
abbrev pub slot_in : PlaceView → r.Slot
slot_in vacant = r.free
slot_in (taken l t) = r.full t

abbrev pub bare_out : PlaceView → Option r.Tree
bare_out vacant = None
bare_out (taken l t) = Some (r.bare_tree t)

-- the place without labels, at any depth
abbrev pub bare_place : PlaceView → PlaceView
bare_place vacant = vacant
bare_place (taken l t) = taken [] (r.bare_tree t)

abbrev pub with_label : ℕ → PlaceView → PlaceView
with_label p vacant = vacant
with_label p (taken l t) = taken (l ++ p ∷ []) t

abbrev pub is_taken : PlaceView → Bool
is_taken vacant = false
is_taken (taken l t) = true
