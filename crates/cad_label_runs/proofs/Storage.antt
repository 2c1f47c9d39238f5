-- Storage: labels are kept apart, and values in hand have none.
use Rattle.std.specs.Prelude.{Bool}
use Rattle.std.specs.Prelude.{false}
use Rattle.cad_syntax.specs.Types.{PureType, reference}
use Rattle.cad_syntax.specs.declared.address.Address.{Address}
use Rattle.cad_syntax.specs.declared.address.Domain.TheVariants as d
use Rattle.cad_syntax.specs.declared.text.Name.{Name}
use Rattle.cad_types.specs.Below.{below}
use Rattle.cad_world.specs.Declared.{declarations}
use Rattle.cad_world.specs.Labels.{stored_slot}
use Rattle.cad_world.specs.Rows.{Row, Slot, out, free, full}
use Rattle.cad_world.specs.Trees.{wrapped, nil_tree}
use Rattle.cad_evaluation.specs.Casts.{type_tree}
use Rattle.cad_evaluation.specs.Numbers.{bool_tree}
use Rattle.std.proofs.Common.{refl}
use Rattle.cad_evaluation.specs.Storage.{stored_reference, borrowed_as, borrow, is_stored_as, check, type_of_stored, type_at}
use Rattle.std.proofs.Common.{refl}
use Rattle.cad_labels.specs.Laws.{HasNone, Keeps, AnyOne}
use Rattle.cad_world.specs.State.{give}
use Rattle.cad_labels.proofs.Accounts.{identifier_keeps, stored_type_keeps, type_keeps}
use Rattle.cad_labels.proofs.Forms.{keeps_give, keeps_stuck}
use Rattle.cad_labels.proofs.Keeping.{keeps_bind}

pub borrowed_as_keeps : (x1 : Address) (x2 : Name) (x3 : PureType) (x4 : Slot) → Keeps HasNone (borrowed_as x1 x2 x3 x4)
borrowed_as_keeps a name (reference own type) (full t) = stored_type_keeps HasNone type t _ (keeps_give HasNone (wrapped (stored_reference a name own type)) (λ p. refl))
borrowed_as_keeps a name (reference own type) out = keeps_give HasNone nil_tree (λ p. refl)
borrowed_as_keeps a name type place = keeps_stuck HasNone

pub borrow_keeps : (x1 : PureType) (x2 : Row) (x3 : Address) → Keeps HasNone (borrow x1 x2 x3)
borrow_keeps type r a = identifier_keeps d.Storage 0 r _ (λ name. λ s once. (borrowed_as_keeps a name type (stored_slot s a.0 name)) s once)

pub is_stored_as_keeps : (x1 : PureType) (x2 : Slot) → Keeps AnyOne (is_stored_as x1 x2)
is_stored_as_keeps type (full t) = type_keeps AnyOne t _ (λ own. λ s once. (keeps_give {A = Bool} AnyOne (below (declarations s) own type) tt) s once)
is_stored_as_keeps type out = keeps_give {A = Bool} AnyOne false tt
is_stored_as_keeps type free = keeps_stuck {A = Bool} AnyOne

pub check_keeps : (x1 : PureType) (x2 : Row) (x3 : Address) → Keeps HasNone (check x1 x2 x3)
check_keeps type r a = identifier_keeps d.Storage 0 r _ (λ name. λ s once. (keeps_bind AnyOne HasNone _ (λ x. give (bool_tree x)) (is_stored_as_keeps type (stored_slot s a.0 name)) (λ x h_x. keeps_give HasNone (bool_tree x) (λ p. refl))) s once)

pub type_of_stored_keeps : (x1 : Slot) → Keeps HasNone (type_of_stored x1)
type_of_stored_keeps (full t) = type_keeps HasNone t _ (λ own. keeps_give HasNone (wrapped (type_tree own)) (λ p. refl))
type_of_stored_keeps out = keeps_give HasNone nil_tree (λ p. refl)
type_of_stored_keeps free = keeps_stuck HasNone

pub type_at_keeps : (x1 : Row) (x2 : Address) → Keeps HasNone (type_at x1 x2)
type_at_keeps r a = identifier_keeps d.Storage 0 r _ (λ name. λ s once. (type_of_stored_keeps (stored_slot s a.0 name)) s once)
