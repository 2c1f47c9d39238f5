-- Receivers: the same while the units last.
use Rattle.std.specs.Prelude.{ℕ, Bool, true, false, Option, Some, None}
use Rattle.std.specs.Option.{is_some}
use Rattle.cad_syntax.specs.Types.{PureType}
use Rattle.cad_syntax.specs.declared.types.Authorization.{Authorization}
use Rattle.cad_values.specs.Values.{PureValue}
use Rattle.cad_values.specs.Values as v
use Rattle.cad_values.specs.declared.value.Target.{Target}
use Rattle.cad_values.specs.declared.value.Target.TheVariants as to
use Rattle.cad_types.specs.Below.{below}
use Rattle.cad_world.specs.Rows.{NodeShape, plain, link, stop, Tree, Slot, full}
use Rattle.cad_world.specs.State.{Action}
use Rattle.cad_world.specs.Trees.{nil_tree}
use Rattle.cad_world.specs.Declared.{declarations}
use Rattle.cad_world.specs.Labels.{stored_slot}
use Rattle.cad_world.specs.OwnTypes.{own_type, controller_at}
use Rattle.cad_world.specs.Locations.{Location, stored}
use Rattle.cad_world.specs.Receivers.{Receiver, standing, through, absent, spot_at, of_borrowed_type, stored_spot, spot_by, plain_spot, deref, look_at, is_reference, receiver_of, receiver_with, receiver_at}
use Rattle.cad_bounds.proofs.Same.{Runs, Same, same_give, same_fail, same_stuck, same_or_fail, same_require, same_bind}
use Rattle.cad_bounds.proofs.Locations.{same_name, same_read, same_with_found}

pub same_spot_at : (R : Runs) (x1 : Option Authorization) (x2 : ℕ) (x3 : ℕ) → Same R (spot_at x1 x2 x3) (spot_at x1 x2 x3)
same_spot_at R rights l n = same_with_found R l _ _ (λ f. (same_give R (record { rights = rights; label = Some l; tree = record (f.tree) { optionals = n } })))

pub same_of_borrowed_type : {A : Type 0} (R : Runs) (x1 : PureType) (x2 : Tree) (x3 x3' : Action A) → Same R x3 x3' → Same {A = A} R (of_borrowed_type x1 x2 x3) (of_borrowed_type x1 x2 x3')
same_of_borrowed_type R type t p p' h_p = λ s low. (same_or_fail R 113 (own_type s t) _ _ (λ own. (same_require R 114 (below (declarations s) own type) _ _ h_p))) s low

pub same_stored_spot : (R : Runs) (x1 : Authorization) (x2 : PureType) (x3 : Location) (x4 : Slot) → Same R (stored_spot x1 x2 x3 x4) (stored_spot x1 x2 x3 x4)
same_stored_spot R a type x (full t) = same_of_borrowed_type R type t _ _ (same_bind R _ _ _ _ (same_name R x) (λ l. (same_spot_at R (Some a) l t.optionals)))
same_stored_spot R a type x _ = same_fail R 114

pub same_spot_by : (R : Runs) (x1 : Authorization) (x2 : PureType) (x3 : PureValue) (x4 : Target) → Same R (spot_by x1 x2 x3 x4) (spot_by x1 x2 x3 x4)
same_spot_by R a type own (to.Node l) = same_stuck R
same_spot_by R a type own (to.Stored address n) = λ s low. (same_stored_spot R a type (stored address.0 n) (stored_slot s address.0 n)) s low
same_spot_by R a type own (to.Account address) = same_give R (record { rights = Some a; label = None; tree = record { optionals = 0; shape = plain own; parts = stop } })
same_spot_by R a type own (to.Controller address n) = λ s low. (same_require R 113 (is_some (controller_at s address.0 n)) _ _ (same_give R (record { rights = Some a; label = None; tree = record { optionals = 0; shape = plain own; parts = stop } }))) s low

pub same_plain_spot : (R : Runs) (x1 : PureValue) → Same R (plain_spot x1) (plain_spot x1)
same_plain_spot R (v.reference a type target) = same_spot_by R a type (v.reference a type target) target
same_plain_spot R _ = same_stuck R

pub same_deref : (R : Runs) (x1 : NodeShape) → Same R (deref x1) (deref x1)
same_deref R (link a l n) = same_spot_at R (Some a) l n
same_deref R (plain v) = same_plain_spot R v
same_deref R _ = same_stuck R

pub same_look_at : (R : Runs) (x1 : Receiver) → Same R (look_at x1) (look_at x1)
same_look_at R (standing rights l n) = same_spot_at R rights l n
same_look_at R (through shape) = same_deref R shape
same_look_at R absent = same_give R (record { rights = None; label = None; tree = nil_tree })

pub same_receiver_of : (R : Runs) (x1 : Option Authorization) (x2 : Location) (x3 : Bool) (x4 : Tree) → Same R (receiver_of x1 x2 x3 x4) (receiver_of x1 x2 x3 x4)
same_receiver_of R rights x true t = same_give R (through t.shape)
same_receiver_of R rights x false t = same_bind R _ _ _ _ (same_name R x) (λ l. (same_give R (standing rights l t.optionals)))

pub same_receiver_with : (R : Runs) (x1 : Option Authorization) (x2 : Location) (x3 : Option Tree) → Same R (receiver_with x1 x2 x3) (receiver_with x1 x2 x3)
same_receiver_with R rights x None = same_give R absent
same_receiver_with R rights x (Some t) = same_receiver_of R rights x (is_reference t) t

pub same_receiver_at : (R : Runs) (x1 : Option Authorization) (x2 : Location) → Same R (receiver_at x1 x2) (receiver_at x1 x2)
same_receiver_at R rights x = same_bind R _ _ _ _ (same_read R x) (λ v1. (same_receiver_with R rights x v1))
