-- Reading: labels are kept apart, and values in hand have none.
use Rattle.std.specs.Prelude.{ℕ, ◌&&◌, ◌==◌, Option, Some, None, option_and_then}
use Rattle.cad_syntax.specs.Types.{PureType}
use Rattle.cad_syntax.specs.declared.text.Name.{Name}
use Rattle.cad_syntax.specs.declared.types.Authorization.{Authorization}
use Rattle.cad_syntax.specs.declared.types.Authorization.TheVariants.{Unauthorized}
use Rattle.cad_types.specs.Optionals.{gives_reference}
use Rattle.cad_declarations.specs.Tables.{MemberEntry}
use Rattle.cad_world.specs.Rows.{NodeShape, Row, stop, plain, link, array, dictionary, Tree, Slot, out, free, full, slot}
use Rattle.cad_world.specs.Trees.{wrapped, nil_tree, value_of}
use Rattle.cad_world.specs.Labels.{position_of}
use Rattle.cad_world.specs.Locations.{Location, part, element, entry, name, key_position, slot_at}
use Rattle.cad_world.specs.Receivers.{Spot}
use Rattle.cad_evaluation.specs.Numbers.{integer_in}
use Rattle.cad_evaluation.specs.Access.{member_of, serves}
use Rattle.cad_evaluation.specs.Reading.{lent_shape, lent, handed, composite_id, field_names, field_type, may_give, right_given, read_part, read_member, read_field, read_element, read_entry, read_index_at, read_index, unsigned_64, identity_in, read_uuid}
use Rattle.std.proofs.Common.{refl}
use Rattle.cad_labels.specs.Laws.{HasNone, Keeps, AnyOne}
use Rattle.cad_world.specs.State.{give}
use Rattle.cad_label_runs.proofs.Values.{then_within, unsigned_none}
use Rattle.cad_labels.proofs.Forms.{keeps_choose, keeps_fail, keeps_give, keeps_guard, keeps_some, keeps_stuck, keeps_within}
use Rattle.cad_labels.proofs.Keeping.{keeps_bind}
use Rattle.cad_labels.proofs.Members.{copied_keeps}
use Rattle.cad_labels.proofs.Places.{element_keeps, naming_keeps}

pub lent_shape_keeps : (x1 : Authorization) (x2 : Location) (x3 : Tree) (x4 : NodeShape) → Keeps HasNone (lent_shape x1 x2 x3 x4)
lent_shape_keeps a x t (plain v) = copied_keeps t
lent_shape_keeps a x t (link b l n) = copied_keeps t
lent_shape_keeps a x t _ = keeps_bind AnyOne HasNone _ (λ l. give (record { optionals = t.optionals; shape = link a l 0; parts = stop })) (naming_keeps x) (λ l h_l. keeps_give HasNone (record { optionals = t.optionals; shape = link a l 0; parts = stop }) (λ p. refl))

pub lent_keeps : (x1 : Authorization) (x2 : Location) (x3 : Tree) → Keeps HasNone (lent x1 x2 x3)
lent_keeps a x t = lent_shape_keeps a x t t.shape

pub handed_keeps : (x1 : Option Authorization) (x2 : Authorization) (x3 : PureType) (x4 : Location) (x5 : Tree) → Keeps HasNone (handed x1 x2 x3 x4 x5)
handed_keeps None a type x t = copied_keeps t
handed_keeps (Some own) a type x t = keeps_choose HasNone (gives_reference type) _ _ (lent_keeps a x t) (copied_keeps t)

pub read_part_keeps : (x1 : Option Authorization) (x2 : Authorization) (x3 : PureType) (x4 : Location) (x5 : Slot) → Keeps HasNone (read_part x1 x2 x3 x4 x5)
read_part_keeps rights right type x (full t) = handed_keeps rights right type x t
read_part_keeps rights right type x free = keeps_fail HasNone 132
read_part_keeps rights right type x out = keeps_stuck HasNone

pub read_member_keeps : (x1 : Authorization) (x2 : Spot) (x3 : MemberEntry) → Keeps HasNone (read_member x1 x2 x3)
read_member_keeps right spot m = keeps_some HasNone (field_type m.form) _ (λ type. keeps_some HasNone (position_of m.name (field_names spot.tree.shape)) _ (λ i. keeps_some HasNone spot.label _ (λ l. read_part_keeps spot.rights (right_given m.access right) type (part l i) (slot i spot.tree.parts))))

pub read_field_keeps : (x1 : Name) (x2 : Authorization) (x3 : Spot) → Keeps HasNone (read_field x1 x2 x3)
read_field_keeps name right spot = λ s once. (keeps_some HasNone (composite_id spot.tree) _ (λ id. keeps_some HasNone (member_of s name id) _ (λ m. keeps_guard HasNone (serves s id m spot.rights && may_give s m.access spot.rights right) _ (read_member_keeps right spot m)))) s once

pub read_element_keeps : (x1 : Option Authorization) (x2 : PureType) (x3 : Location) (x4 : Slot) → Keeps HasNone (read_element x1 x2 x3 x4)
read_element_keeps rights type x (full t) = handed_keeps rights Unauthorized type x t
read_element_keeps rights type x _ = keeps_fail HasNone 113

pub read_entry_keeps : (x1 : Option Authorization) (x2 : PureType) (x3 : Location) (x4 : Slot) → Keeps HasNone (read_entry x1 x2 x3 x4)
read_entry_keeps rights type x (full t) = keeps_bind HasNone HasNone _ (λ v. give (wrapped v)) (handed_keeps rights Unauthorized type x t) (λ v h_v. keeps_give HasNone (wrapped v) h_v)
read_entry_keeps rights type x free = keeps_fail HasNone 113
read_entry_keeps rights type x out = keeps_give HasNone nil_tree (λ p. refl)

pub read_index_at_keeps : (x1 : Tree) (x2 : Option Authorization) (x3 : ℕ) (x4 : NodeShape) (x5 : Row) → Keeps HasNone (read_index_at x1 x2 x3 x4 x5)
read_index_at_keeps index rights l (array type) r = keeps_some HasNone (integer_in index) _ (λ i. keeps_bind AnyOne HasNone _ _ (element_keeps i (array type) r) (λ v1 h_v1. read_element_keeps rights type (element l i) v1))
read_index_at_keeps index rights l (dictionary k type ks) r = read_entry_keeps rights type (entry l (value_of index)) (slot_at (key_position (value_of index) ks) r)
read_index_at_keeps index rights l shape r = keeps_stuck HasNone

pub read_index_keeps : (x1 : Tree) (x2 : Spot) → Keeps HasNone (read_index x1 x2)
read_index_keeps index spot = keeps_guard HasNone (spot.tree.optionals == 0) _ (keeps_some HasNone spot.label _ (λ l. read_index_at_keeps index spot.rights l spot.tree.shape spot.tree.parts))

pub read_uuid_keeps : (x1 : Spot) → Keeps HasNone (read_uuid x1)
read_uuid_keeps spot = keeps_within HasNone HasNone (option_and_then unsigned_64 (identity_in spot.tree.optionals spot.tree.shape)) _ (then_within HasNone unsigned_64 (identity_in spot.tree.optionals spot.tree.shape) unsigned_none) (λ v1 h_v1. keeps_give HasNone v1 h_v1)
