-- Capabilities: labels are kept apart, and values in hand have none.
use Rattle.cad_label_runs.proofs.Changes.{account_stands}
use Rattle.std.proofs.Common.{arith, refl}
use Rattle.std.specs.Prelude.{filter, not, ◌==◌}
use Rattle.cad_evaluation.specs.Capabilities.{issuing, publishing, unpublishing, change_controller}
use Rattle.std.specs.Prelude.{not, nat_lt, Option, Some, None, option_and_then}
use Rattle.std.specs.Option.{is_some}
use Rattle.cad_syntax.specs.Types.{PureType, reference}
use Rattle.cad_syntax.specs.declared.address.Address.{Address}
use Rattle.cad_syntax.specs.declared.address.Domain.TheVariants as d
use Rattle.cad_syntax.specs.declared.text.Name.{Name}
use Rattle.cad_values.specs.Shapes.{is_reference_type}
use Rattle.cad_values.specs.Values as v
use Rattle.cad_world.specs.Labels.{account_at, stored_slot}
use Rattle.cad_world.specs.OwnTypes.{controller_at}
use Rattle.cad_world.specs.Receivers.{Spot}
use Rattle.cad_world.specs.Rows.{Row, Tree}
use Rattle.cad_world.specs.State.{Publication, Controller, Account, Action}
use Rattle.cad_world.specs.Trees.{of_plain, nil_tree}
use Rattle.cad_evaluation.specs.Arguments.{argument}
use Rattle.cad_evaluation.specs.Casts.{type_tree}
use Rattle.cad_evaluation.specs.Numbers.{bool_tree, number_in}
use Rattle.cad_evaluation.specs.Reading.{unsigned_64}
use Rattle.cad_evaluation.specs.Storage.{stored_reference}
use Rattle.cad_evaluation.specs.Texts.{in_tree, text_in, text_tree, optional_tree}
use Rattle.std.proofs.Common.{refl}
use Rattle.cad_evaluation.specs.Capabilities.{Capability, capability_tree, capability_in, last_controller, issued, issue, published_at, is_own, publish_free, publish, unpublished, unpublish, exists, got, get, aimed_at, reference_if, lent_as, lent_at, lent_by, on_capability, lend, lends, borrow_published, read_number, read_home, found_controller, get_controller, ControllerId, controller_in_value, on_controller, becomes, read_controller_number, read_borrow_type, read_tag, read_target, set_tag, retarget, delete}
use Rattle.std.proofs.Common.{refl}
use Rattle.cad_labels.specs.Laws.{HasNone, Keeps, AnyOne}
use Rattle.cad_label_runs.proofs.Values.{MaybeHasNone}
use Rattle.cad_world.specs.State.{give}
use Rattle.cad_label_runs.proofs.Storage.{is_stored_as_keeps}
use Rattle.cad_label_runs.proofs.Values.{controller_none, reference_none, unsigned_none}
use Rattle.cad_labels.proofs.Accounts.{identifier_keeps, there_keeps}
use Rattle.cad_labels.proofs.Forms.{keeps_give, keeps_guard, keeps_or_fail, keeps_require, keeps_some, keeps_stuck, keeps_within, optional_none}
use Rattle.cad_labels.proofs.Keeping.{keeps_bind}

pub issued_keeps : (x1 : Address) (x2 : PureType) (x3 : Name) (x4 : Account) → Keeps HasNone (issued x1 x2 x3 x4)
issued_keeps a type target account = keeps_require HasNone 135 (nat_lt account.next_controller last_controller) _ (λ s once. ((λ p. refl), account_stands a.0 (issuing type target) s (λ p x. omega arith) once))

pub issue_keeps : (x1 : PureType) (x2 : Row) (x3 : Address) → Keeps HasNone (issue x1 x2 x3)
issue_keeps type r a = keeps_guard HasNone (is_reference_type type) _ (identifier_keeps d.Storage 0 r _ (λ target. λ s once. (keeps_some HasNone (account_at s.accounts a.0) _ (λ v1. issued_keeps a type target v1)) s once))

pub publish_free_keeps : (x1 : Address) (x2 : Capability) (x3 : Name) → Keeps HasNone (publish_free x1 x2 x3)
publish_free_keeps a c name = λ s once. (keeps_require HasNone 116 (not (is_some (published_at s a name))) _ (λ s once. ((λ p. refl), account_stands a.0 (publishing (record { identifier = name; number = c.number; lent = c.lent })) s (λ p x. omega arith) once))) s once

pub publish_keeps : (x1 : Row) (x2 : Address) → Keeps HasNone (publish x1 x2)
publish_keeps r a = there_keeps a _ (keeps_some HasNone (option_and_then capability_in (argument 0 r)) _ (λ c. identifier_keeps d.Public 1 r _ (λ name. keeps_require HasNone 117 (is_own a c) _ (publish_free_keeps a c name))))

pub unpublished_keeps : (x1 : Address) (x2 : Name) (x3 : Option Publication) → Keeps HasNone (unpublished x1 x2 x3)
unpublished_keeps a name None = keeps_give HasNone nil_tree (λ p. refl)
unpublished_keeps a name (Some p) = λ s once. ((λ q. refl), account_stands a.0 (unpublishing name) s (λ q x. omega arith) once)

pub unpublish_keeps : (x1 : Row) (x2 : Address) → Keeps HasNone (unpublish x1 x2)
unpublish_keeps r a = there_keeps a _ (identifier_keeps d.Public 0 r _ (λ name. λ s once. (unpublished_keeps a name (published_at s a name)) s once))

pub exists_keeps : (x1 : Row) (x2 : Address) → Keeps HasNone (exists x1 x2)
exists_keeps r a = identifier_keeps d.Public 0 r _ (λ name. λ s once. (keeps_give HasNone (bool_tree (is_some (published_at s a name))) (λ p. refl)) s once)

pub get_keeps : (x1 : PureType) (x2 : Row) (x3 : Address) → Keeps HasNone (get x1 x2 x3)
get_keeps type r a = keeps_guard HasNone (is_reference_type type) _ (identifier_keeps d.Public 0 r _ (λ name. λ s once. (keeps_give HasNone (capability_tree (got s a type name)) (λ p. refl)) s once))

pub lent_as_keeps : (x1 : Capability) (x2 : Name) (x3 : PureType) → Keeps MaybeHasNone (lent_as x1 x2 x3)
lent_as_keeps c name (reference own type) = λ s once. (keeps_bind AnyOne MaybeHasNone _ (λ x. give (reference_if x (stored_reference c.address name own type))) (is_stored_as_keeps type (stored_slot s c.address.0 name)) (λ x h_x. keeps_give MaybeHasNone (reference_if x (stored_reference c.address name own type)) (reference_none x (stored_reference c.address name own type) (λ p. refl)))) s once
lent_as_keeps c name _ = keeps_stuck MaybeHasNone

pub lent_at_keeps : (x1 : Capability) (x2 : Option Name) → Keeps MaybeHasNone (lent_at x1 x2)
lent_at_keeps c None = keeps_give MaybeHasNone None tt
lent_at_keeps c (Some name) = lent_as_keeps c name c.lent

pub lent_by_keeps : (x1 : Capability) → Keeps MaybeHasNone (lent_by x1)
lent_by_keeps c = λ s once. (lent_at_keeps c (aimed_at s c)) s once

pub on_capability_keeps : (x1 : Spot) (x2 : Capability → Action Tree) → ((y0 : Capability) → Keeps HasNone (x2 y0)) → Keeps HasNone (on_capability x1 x2)
on_capability_keeps spot f h_f = keeps_some HasNone (capability_in spot.tree) _ (λ w1. h_f w1)

pub lend_keeps : (x1 : Capability) → Keeps HasNone (lend x1)
lend_keeps c = keeps_bind MaybeHasNone HasNone _ (λ t. give (optional_tree t)) (lent_by_keeps c) (λ t h_t. keeps_give HasNone (optional_tree t) (optional_none t h_t))

pub lends_keeps : (x1 : Capability) → Keeps HasNone (lends x1)
lends_keeps c = keeps_bind MaybeHasNone HasNone _ (λ t. give (bool_tree (is_some t))) (lent_by_keeps c) (λ t h_t. keeps_give HasNone (bool_tree (is_some t)) (λ p. refl))

pub borrow_published_keeps : (x1 : PureType) (x2 : Row) (x3 : Address) → Keeps HasNone (borrow_published x1 x2 x3)
borrow_published_keeps type r a = keeps_guard HasNone (is_reference_type type) _ (identifier_keeps d.Public 0 r _ (λ name. λ s once. (lend_keeps (got s a type name)) s once))

pub read_number_keeps : (x1 : Capability) → Keeps HasNone (read_number x1)
read_number_keeps c = keeps_within HasNone HasNone (unsigned_64 c.number) _ (unsigned_none c.number) (λ v1 h_v1. keeps_give HasNone v1 h_v1)

pub read_home_keeps : (x1 : Capability) → Keeps HasNone (read_home x1)
read_home_keeps c = keeps_give HasNone (of_plain (v.address c.address)) (λ p. refl)

pub get_controller_keeps : (x1 : Row) (x2 : Address) → Keeps HasNone (get_controller x1 x2)
get_controller_keeps r a = keeps_some HasNone (option_and_then number_in (argument 0 r)) _ (λ n. λ s once. (keeps_give HasNone (found_controller a n.magnitude (controller_at s a.0 n.magnitude)) (controller_none a n.magnitude (controller_at s a.0 n.magnitude))) s once)

pub on_controller_keeps : (x1 : Spot) (x2 : ControllerId → Controller → Action Tree) → ((y0 : ControllerId) (y1 : Controller) → Keeps HasNone (x2 y0 y1)) → Keeps HasNone (on_controller x1 x2)
on_controller_keeps spot f h_f = keeps_some HasNone (in_tree controller_in_value spot.tree) _ (λ i. λ s once. (keeps_or_fail HasNone 113 (controller_at s i.address.0 i.number) _ (λ v1. h_f i v1)) s once)

pub becomes_keeps : (x1 : (Controller → Controller)) (x2 : ControllerId) → Keeps HasNone (becomes x1 x2)
becomes_keeps g i = λ s once. ((λ p. refl), account_stands i.address.0 (λ a. record a { controllers = change_controller i.number g a.controllers }) s (λ p x. omega arith) once)

pub read_controller_number_keeps : (x1 : Spot) → Keeps HasNone (read_controller_number x1)
read_controller_number_keeps spot = on_controller_keeps spot _ (λ i c. keeps_within HasNone HasNone (unsigned_64 c.number) _ (unsigned_none c.number) (λ v1 h_v1. keeps_give HasNone v1 h_v1))

pub read_borrow_type_keeps : (x1 : Spot) → Keeps HasNone (read_borrow_type x1)
read_borrow_type_keeps spot = on_controller_keeps spot _ (λ i c. keeps_give HasNone (type_tree c.borrow) (λ p. refl))

pub read_tag_keeps : (x1 : Spot) → Keeps HasNone (read_tag x1)
read_tag_keeps spot = on_controller_keeps spot _ (λ i c. keeps_give HasNone (text_tree c.tag) (λ p. refl))

pub read_target_keeps : (x1 : Spot) → Keeps HasNone (read_target x1)
read_target_keeps spot = on_controller_keeps spot _ (λ i c. keeps_give HasNone (of_plain (v.path (record { domain = d.Storage; identifier = c.target }))) (λ p. refl))

pub set_tag_keeps : (x1 : Row) (x2 : Spot) → Keeps HasNone (set_tag x1 x2)
set_tag_keeps r spot = on_controller_keeps spot _ (λ i c. keeps_some HasNone (option_and_then text_in (argument 0 r)) _ (λ text. becomes_keeps (λ x. record x { tag = text }) i))

pub retarget_keeps : (x1 : Row) (x2 : Spot) → Keeps HasNone (retarget x1 x2)
retarget_keeps r spot = on_controller_keeps spot _ (λ i c. identifier_keeps d.Storage 0 r _ (λ name. becomes_keeps (λ x. record x { target = name }) i))

pub delete_keeps : (x1 : Spot) → Keeps HasNone (delete x1)
delete_keeps spot = on_controller_keeps spot _ (λ i c. λ s once. ((λ p. refl), account_stands i.address.0 (λ a. record a { controllers = filter (λ c. not (c.number == i.number)) a.controllers }) s (λ p x. omega arith) once))
