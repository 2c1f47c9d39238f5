-- Storage: the same while the units last.
use Rattle.std.specs.Prelude.{◌-◌, false}
use Rattle.cad_syntax.specs.Types.{PureType, reference}
use Rattle.cad_syntax.specs.declared.address.Address.{Address}
use Rattle.cad_syntax.specs.declared.address.Domain.TheVariants as d
use Rattle.cad_syntax.specs.declared.text.Name.{Name}
use Rattle.cad_types.specs.Below.{below}
use Rattle.cad_world.specs.Declared.{declarations}
use Rattle.cad_world.specs.Labels.{stored_slot}
use Rattle.cad_world.specs.Rows.{Row, Tree, Slot, out, free, full}
use Rattle.cad_world.specs.State.{Action}
use Rattle.cad_world.specs.Trees.{wrapped, nil_tree, tree_weight}
use Rattle.cad_evaluation.specs.Casts.{type_tree}
use Rattle.cad_evaluation.specs.Numbers.{bool_tree}
use Rattle.cad_evaluation.specs.Storage.{paid_parts, of_stored_type, saved, save, loaded, load, copy_of, copy, stored_reference, borrowed_as, borrow, is_stored_as, check, type_of_stored, type_at}
use Rattle.cad_bounds.proofs.Same.{Runs, Same, self_units, same_self, same_give, same_fail, same_stuck, same_spend, same_require, same_bind}
use Rattle.cad_bounds.proofs.Accounts.{same_there}
use Rattle.cad_bounds.proofs.Arguments.{same_with_argument, same_with_identifier}
use Rattle.cad_bounds.proofs.Casts.{same_with_type}
use Rattle.cad_bounds.proofs.Reading.{same_copied}

pub same_paid_parts : (R : Runs) (x1 : Tree) → Same R (paid_parts x1) (paid_parts x1)
same_paid_parts R t = same_spend R (tree_weight t - 1)

pub same_of_stored_type : {A : Type 0} (R : Runs) (x1 : PureType) (x2 : Tree) (x3 x3' : Action A) → Same R x3 x3' → Same {A = A} R (of_stored_type x1 x2 x3) (of_stored_type x1 x2 x3')
same_of_stored_type R type t p p' h_p = same_with_type R t _ _ (λ own. (λ s low. (same_require R 112 (below (declarations s) own type) _ _ h_p) s low))

pub same_saved : (R : Runs) (x1 : Address) (x2 : Name) (x3 : Tree) (x4 : Slot) → Same R (saved x1 x2 x3 x4) (saved x1 x2 x3 x4)
same_saved R a name t (full old) = same_fail R 111
same_saved R a name t out = same_bind R _ _ _ _ (same_paid_parts R t) (λ u1. (same_self R _ (λ s. self_units s.units)))
same_saved R a name t free = same_stuck R

pub same_save : (R : Runs) (x1 : Row) (x2 : Address) → Same R (save x1 x2) (save x1 x2)
same_save R r a = same_there R a _ _ (same_with_argument R r _ _ (λ t. (same_with_identifier R d.Storage 1 r _ _ (λ name. (λ s low. (same_saved R a name t (stored_slot s a.0 name)) s low)))))

pub same_loaded : (R : Runs) (x1 : Address) (x2 : Name) (x3 : PureType) (x4 : Slot) → Same R (loaded x1 x2 x3 x4) (loaded x1 x2 x3 x4)
same_loaded R a name type (full t) = same_of_stored_type R type t _ _ (same_bind R _ _ _ _ (same_paid_parts R t) (λ u1. (same_self R _ (λ s. self_units s.units))))
same_loaded R a name type out = same_give R nil_tree
same_loaded R a name type free = same_stuck R

pub same_load : (R : Runs) (x1 : PureType) (x2 : Row) (x3 : Address) → Same R (load x1 x2 x3) (load x1 x2 x3)
same_load R type r a = same_with_identifier R d.Storage 0 r _ _ (λ name. (λ s low. (same_loaded R a name type (stored_slot s a.0 name)) s low))

pub same_copy_of : (R : Runs) (x1 : PureType) (x2 : Slot) → Same R (copy_of x1 x2) (copy_of x1 x2)
same_copy_of R type (full t) = same_of_stored_type R type t _ _ (same_bind R _ _ _ _ (same_copied R t) (λ c. (same_bind R _ _ _ _ (same_paid_parts R t) (λ u1. (same_give R (wrapped c))))))
same_copy_of R type out = same_give R nil_tree
same_copy_of R type free = same_stuck R

pub same_copy : (R : Runs) (x1 : PureType) (x2 : Row) (x3 : Address) → Same R (copy x1 x2 x3) (copy x1 x2 x3)
same_copy R type r a = same_with_identifier R d.Storage 0 r _ _ (λ name. (λ s low. (same_copy_of R type (stored_slot s a.0 name)) s low))

pub same_borrowed_as : (R : Runs) (x1 : Address) (x2 : Name) (x3 : PureType) (x4 : Slot) → Same R (borrowed_as x1 x2 x3 x4) (borrowed_as x1 x2 x3 x4)
same_borrowed_as R a name (reference own type) (full t) = same_of_stored_type R type t _ _ (same_give R (wrapped (stored_reference a name own type)))
same_borrowed_as R a name (reference own type) out = same_give R nil_tree
same_borrowed_as R a name type place = same_stuck R

pub same_borrow : (R : Runs) (x1 : PureType) (x2 : Row) (x3 : Address) → Same R (borrow x1 x2 x3) (borrow x1 x2 x3)
same_borrow R type r a = same_with_identifier R d.Storage 0 r _ _ (λ name. (λ s low. (same_borrowed_as R a name type (stored_slot s a.0 name)) s low))

pub same_is_stored_as : (R : Runs) (x1 : PureType) (x2 : Slot) → Same R (is_stored_as x1 x2) (is_stored_as x1 x2)
same_is_stored_as R type (full t) = same_with_type R t _ _ (λ own. (λ s low. (same_give R (below (declarations s) own type)) s low))
same_is_stored_as R type out = same_give R false
same_is_stored_as R type free = same_stuck R

pub same_check : (R : Runs) (x1 : PureType) (x2 : Row) (x3 : Address) → Same R (check x1 x2 x3) (check x1 x2 x3)
same_check R type r a = same_with_identifier R d.Storage 0 r _ _ (λ name. (λ s low. (same_bind R _ _ _ _ (same_is_stored_as R type (stored_slot s a.0 name)) (λ x. (same_give R (bool_tree x)))) s low))

pub same_type_of_stored : (R : Runs) (x1 : Slot) → Same R (type_of_stored x1) (type_of_stored x1)
same_type_of_stored R (full t) = same_with_type R t _ _ (λ own. (same_give R (wrapped (type_tree own))))
same_type_of_stored R out = same_give R nil_tree
same_type_of_stored R free = same_stuck R

pub same_type_at : (R : Runs) (x1 : Row) (x2 : Address) → Same R (type_at x1 x2) (type_at x1 x2)
same_type_at R r a = same_with_identifier R d.Storage 0 r _ _ (λ name. (λ s low. (same_type_of_stored R (stored_slot s a.0 name)) s low))
