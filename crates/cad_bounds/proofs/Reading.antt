-- Reading: the same while the units last.
use Rattle.std.specs.Prelude.{ℕ, not, ◌&&◌, ◌==◌, Option, Some, None, option_and_then}
use Rattle.cad_syntax.specs.Types.{PureType}
use Rattle.cad_syntax.specs.declared.text.Name.{Name}
use Rattle.cad_syntax.specs.declared.types.Authorization.{Authorization}
use Rattle.cad_syntax.specs.declared.types.Authorization.TheVariants.{Unauthorized}
use Rattle.cad_types.specs.Optionals.{gives_reference}
use Rattle.cad_declarations.specs.Tables.{MemberEntry}
use Rattle.cad_world.specs.Rows.{NodeShape, Row, stop, plain, link, array, dictionary, Tree, Slot, out, free, full, slot, bare_tree, tree_owns}
use Rattle.cad_world.specs.Trees.{wrapped, nil_tree, value_of}
use Rattle.cad_world.specs.Labels.{position_of}
use Rattle.cad_world.specs.Locations.{Location, part, element, entry, name, key_position, slot_at}
use Rattle.cad_world.specs.Receivers.{Spot}
use Rattle.cad_evaluation.specs.Numbers.{integer_in}
use Rattle.cad_evaluation.specs.Access.{member_of, serves}
use Rattle.cad_evaluation.specs.Reading.{copied, lent_shape, lent, handed, composite_id, field_names, field_type, may_give, right_given, read_part, read_member, read_field, read_element, read_entry, read_index_at, read_index, unsigned_64, identity_in, read_uuid}
use Rattle.cad_bounds.proofs.Same.{Runs, Same, same_give, same_fail, same_stuck, same_some, same_guard, same_choose, same_bind}
use Rattle.cad_bounds.proofs.Locations.{same_element_of, same_name}

pub same_copied : (R : Runs) (x1 : Tree) → Same R (copied x1) (copied x1)
same_copied R t = same_guard R (not (tree_owns t)) _ _ (same_give R (bare_tree t))

pub same_lent_shape : (R : Runs) (x1 : Authorization) (x2 : Location) (x3 : Tree) (x4 : NodeShape) → Same R (lent_shape x1 x2 x3 x4) (lent_shape x1 x2 x3 x4)
same_lent_shape R a x t (plain v) = same_copied R t
same_lent_shape R a x t (link b l n) = same_copied R t
same_lent_shape R a x t _ = same_bind R _ _ _ _ (same_name R x) (λ l. (same_give R (record { optionals = t.optionals; shape = link a l 0; parts = stop })))

pub same_lent : (R : Runs) (x1 : Authorization) (x2 : Location) (x3 : Tree) → Same R (lent x1 x2 x3) (lent x1 x2 x3)
same_lent R a x t = same_lent_shape R a x t t.shape

pub same_handed : (R : Runs) (x1 : Option Authorization) (x2 : Authorization) (x3 : PureType) (x4 : Location) (x5 : Tree) → Same R (handed x1 x2 x3 x4 x5) (handed x1 x2 x3 x4 x5)
same_handed R None a type x t = same_copied R t
same_handed R (Some own) a type x t = same_choose R (gives_reference type) _ _ _ _ (same_lent R a x t) (same_copied R t)

pub same_read_part : (R : Runs) (x1 : Option Authorization) (x2 : Authorization) (x3 : PureType) (x4 : Location) (x5 : Slot) → Same R (read_part x1 x2 x3 x4 x5) (read_part x1 x2 x3 x4 x5)
same_read_part R rights right type x (full t) = same_handed R rights right type x t
same_read_part R rights right type x free = same_fail R 132
same_read_part R rights right type x out = same_stuck R

pub same_read_member : (R : Runs) (x1 : Authorization) (x2 : Spot) (x3 : MemberEntry) → Same R (read_member x1 x2 x3) (read_member x1 x2 x3)
same_read_member R right spot m = same_some R (field_type m.form) _ _ (λ type. (same_some R (position_of m.name (field_names spot.tree.shape)) _ _ (λ i. (same_some R spot.label _ _ (λ l. (same_read_part R spot.rights (right_given m.access right) type (part l i) (slot i spot.tree.parts)))))))

pub same_read_field : (R : Runs) (x1 : Name) (x2 : Authorization) (x3 : Spot) → Same R (read_field x1 x2 x3) (read_field x1 x2 x3)
same_read_field R name right spot = λ s low. (same_some R (composite_id spot.tree) _ _ (λ id. (same_some R (member_of s name id) _ _ (λ m. (same_guard R (serves s id m spot.rights && may_give s m.access spot.rights right) _ _ (same_read_member R right spot m)))))) s low

pub same_read_element : (R : Runs) (x1 : Option Authorization) (x2 : PureType) (x3 : Location) (x4 : Slot) → Same R (read_element x1 x2 x3 x4) (read_element x1 x2 x3 x4)
same_read_element R rights type x (full t) = same_handed R rights Unauthorized type x t
same_read_element R rights type x _ = same_fail R 113

pub same_read_entry : (R : Runs) (x1 : Option Authorization) (x2 : PureType) (x3 : Location) (x4 : Slot) → Same R (read_entry x1 x2 x3 x4) (read_entry x1 x2 x3 x4)
same_read_entry R rights type x (full t) = same_bind R _ _ _ _ (same_handed R rights Unauthorized type x t) (λ v. (same_give R (wrapped v)))
same_read_entry R rights type x free = same_fail R 113
same_read_entry R rights type x out = same_give R nil_tree

pub same_read_index_at : (R : Runs) (x1 : Tree) (x2 : Option Authorization) (x3 : ℕ) (x4 : NodeShape) (x5 : Row) → Same R (read_index_at x1 x2 x3 x4 x5) (read_index_at x1 x2 x3 x4 x5)
same_read_index_at R index rights l (array type) r = same_some R (integer_in index) _ _ (λ i. (same_bind R _ _ _ _ (same_element_of R i (array type) r) (λ v1. (same_read_element R rights type (element l i) v1))))
same_read_index_at R index rights l (dictionary k type ks) r = same_read_entry R rights type (entry l (value_of index)) (slot_at (key_position (value_of index) ks) r)
same_read_index_at R index rights l shape r = same_stuck R

pub same_read_index : (R : Runs) (x1 : Tree) (x2 : Spot) → Same R (read_index x1 x2) (read_index x1 x2)
same_read_index R index spot = same_guard R (spot.tree.optionals == 0) _ _ (same_some R spot.label _ _ (λ l. (same_read_index_at R index spot.rights l spot.tree.shape spot.tree.parts)))

pub same_read_uuid : (R : Runs) (x1 : Spot) → Same R (read_uuid x1) (read_uuid x1)
same_read_uuid R spot = same_some R (option_and_then unsigned_64 (identity_in spot.tree.optionals spot.tree.shape)) _ _ (λ v1. (same_give R v1))
