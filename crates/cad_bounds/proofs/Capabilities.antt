-- Capabilities: the same while the units last.
use Rattle.std.specs.Prelude.{not, nat_lt, Option, Some, None, option_and_then}
use Rattle.std.specs.Option.{is_some}
use Rattle.cad_syntax.specs.Types.{PureType, reference}
use Rattle.cad_syntax.specs.declared.address.Address.{Address}
use Rattle.cad_syntax.specs.declared.address.Domain.TheVariants as d
use Rattle.cad_syntax.specs.declared.text.Name.{Name}
use Rattle.cad_values.specs.Shapes.{is_reference_type}
use Rattle.cad_values.specs.Values as v
use Rattle.cad_world.specs.Labels.{account_at, stored_slot}
use Rattle.cad_world.specs.OwnTypes.{controller_at}
use Rattle.cad_world.specs.Receivers.{Spot}
use Rattle.cad_world.specs.Rows.{Row, Tree}
use Rattle.cad_world.specs.State.{Publication, Controller, Account, Action}
use Rattle.cad_world.specs.Trees.{of_plain, nil_tree}
use Rattle.cad_evaluation.specs.Arguments.{argument}
use Rattle.cad_evaluation.specs.Casts.{type_tree}
use Rattle.cad_evaluation.specs.Numbers.{bool_tree, number_in}
use Rattle.cad_evaluation.specs.Reading.{unsigned_64}
use Rattle.cad_evaluation.specs.Storage.{stored_reference}
use Rattle.cad_evaluation.specs.Texts.{in_tree, text_in, text_tree, optional_tree}
use Rattle.cad_evaluation.specs.Capabilities.{Capability, capability_tree, capability_in, last_controller, issued, issue, published_at, is_own, publish_free, publish, unpublished, unpublish, exists, got, get, aimed_at, reference_if, lent_as, lent_at, lent_by, on_capability, lend, lends, borrow_published, read_number, read_home, found_controller, get_controller, ControllerId, controller_in_value, on_controller, becomes, read_controller_number, read_borrow_type, read_tag, read_target, set_tag, retarget, delete}
use Rattle.cad_bounds.proofs.Same.{Runs, Same, self_units, same_self, same_give, same_stuck, same_some, same_or_fail, same_guard, same_require, same_bind}
use Rattle.cad_bounds.proofs.Accounts.{same_there}
use Rattle.cad_bounds.proofs.Arguments.{same_with_identifier}
use Rattle.cad_bounds.proofs.Storage.{same_is_stored_as}

pub same_issued : (R : Runs) (x1 : Address) (x2 : PureType) (x3 : Name) (x4 : Account) → Same R (issued x1 x2 x3 x4) (issued x1 x2 x3 x4)
same_issued R a type target account = same_require R 135 (nat_lt account.next_controller last_controller) _ _ (same_self R _ (λ s. self_units s.units))

pub same_issue : (R : Runs) (x1 : PureType) (x2 : Row) (x3 : Address) → Same R (issue x1 x2 x3) (issue x1 x2 x3)
same_issue R type r a = same_guard R (is_reference_type type) _ _ (same_with_identifier R d.Storage 0 r _ _ (λ target. (λ s low. (same_some R (account_at s.accounts a.0) _ _ (λ v1. (same_issued R a type target v1))) s low)))

pub same_publish_free : (R : Runs) (x1 : Address) (x2 : Capability) (x3 : Name) → Same R (publish_free x1 x2 x3) (publish_free x1 x2 x3)
same_publish_free R a c name = λ s low. (same_require R 116 (not (is_some (published_at s a name))) _ _ (same_self R _ (λ s. self_units s.units))) s low

pub same_publish : (R : Runs) (x1 : Row) (x2 : Address) → Same R (publish x1 x2) (publish x1 x2)
same_publish R r a = same_there R a _ _ (same_some R (option_and_then capability_in (argument 0 r)) _ _ (λ c. (same_with_identifier R d.Public 1 r _ _ (λ name. (same_require R 117 (is_own a c) _ _ (same_publish_free R a c name))))))

pub same_unpublished : (R : Runs) (x1 : Address) (x2 : Name) (x3 : Option Publication) → Same R (unpublished x1 x2 x3) (unpublished x1 x2 x3)
same_unpublished R a name None = same_give R nil_tree
same_unpublished R a name (Some p) = same_self R _ (λ s. self_units s.units)

pub same_unpublish : (R : Runs) (x1 : Row) (x2 : Address) → Same R (unpublish x1 x2) (unpublish x1 x2)
same_unpublish R r a = same_there R a _ _ (same_with_identifier R d.Public 0 r _ _ (λ name. (λ s low. (same_unpublished R a name (published_at s a name)) s low)))

pub same_exists : (R : Runs) (x1 : Row) (x2 : Address) → Same R (exists x1 x2) (exists x1 x2)
same_exists R r a = same_with_identifier R d.Public 0 r _ _ (λ name. (λ s low. (same_give R (bool_tree (is_some (published_at s a name)))) s low))

pub same_get : (R : Runs) (x1 : PureType) (x2 : Row) (x3 : Address) → Same R (get x1 x2 x3) (get x1 x2 x3)
same_get R type r a = same_guard R (is_reference_type type) _ _ (same_with_identifier R d.Public 0 r _ _ (λ name. (λ s low. (same_give R (capability_tree (got s a type name))) s low)))

pub same_lent_as : (R : Runs) (x1 : Capability) (x2 : Name) (x3 : PureType) → Same R (lent_as x1 x2 x3) (lent_as x1 x2 x3)
same_lent_as R c name (reference own type) = λ s low. (same_bind R _ _ _ _ (same_is_stored_as R type (stored_slot s c.address.0 name)) (λ x. (same_give R (reference_if x (stored_reference c.address name own type))))) s low
same_lent_as R c name _ = same_stuck R

pub same_lent_at : (R : Runs) (x1 : Capability) (x2 : Option Name) → Same R (lent_at x1 x2) (lent_at x1 x2)
same_lent_at R c None = same_give R None
same_lent_at R c (Some name) = same_lent_as R c name c.lent

pub same_lent_by : (R : Runs) (x1 : Capability) → Same R (lent_by x1) (lent_by x1)
same_lent_by R c = λ s low. (same_lent_at R c (aimed_at s c)) s low

pub same_on_capability : (R : Runs) (x1 : Spot) (x2 x2' : Capability → Action Tree) → ((y0 : Capability) → Same R (x2 y0) (x2' y0)) → Same R (on_capability x1 x2) (on_capability x1 x2')
same_on_capability R spot f f' h_f = same_some R (capability_in spot.tree) _ _ h_f

pub same_lend : (R : Runs) (x1 : Capability) → Same R (lend x1) (lend x1)
same_lend R c = same_bind R _ _ _ _ (same_lent_by R c) (λ t. (same_give R (optional_tree t)))

pub same_lends : (R : Runs) (x1 : Capability) → Same R (lends x1) (lends x1)
same_lends R c = same_bind R _ _ _ _ (same_lent_by R c) (λ t. (same_give R (bool_tree (is_some t))))

pub same_borrow_published : (R : Runs) (x1 : PureType) (x2 : Row) (x3 : Address) → Same R (borrow_published x1 x2 x3) (borrow_published x1 x2 x3)
same_borrow_published R type r a = same_guard R (is_reference_type type) _ _ (same_with_identifier R d.Public 0 r _ _ (λ name. (λ s low. (same_lend R (got s a type name)) s low)))

pub same_read_number : (R : Runs) (x1 : Capability) → Same R (read_number x1) (read_number x1)
same_read_number R c = same_some R (unsigned_64 c.number) _ _ (λ v1. (same_give R v1))

pub same_read_home : (R : Runs) (x1 : Capability) → Same R (read_home x1) (read_home x1)
same_read_home R c = same_give R (of_plain (v.address c.address))

pub same_get_controller : (R : Runs) (x1 : Row) (x2 : Address) → Same R (get_controller x1 x2) (get_controller x1 x2)
same_get_controller R r a = same_some R (option_and_then number_in (argument 0 r)) _ _ (λ n. (λ s low. (same_give R (found_controller a n.magnitude (controller_at s a.0 n.magnitude))) s low))

pub same_on_controller : (R : Runs) (x1 : Spot) (x2 x2' : ControllerId → Controller → Action Tree) → ((y0 : ControllerId) (y1 : Controller) → Same R (x2 y0 y1) (x2' y0 y1)) → Same R (on_controller x1 x2) (on_controller x1 x2')
same_on_controller R spot f f' h_f = same_some R (in_tree controller_in_value spot.tree) _ _ (λ i. (λ s low. (same_or_fail R 113 (controller_at s i.address.0 i.number) _ _ (λ v1. (h_f i v1))) s low))

pub same_becomes : (R : Runs) (x1 : (Controller → Controller)) (x2 : ControllerId) → Same R (becomes x1 x2) (becomes x1 x2)
same_becomes R g i = same_self R _ (λ s. self_units s.units)

pub same_read_controller_number : (R : Runs) (x1 : Spot) → Same R (read_controller_number x1) (read_controller_number x1)
same_read_controller_number R spot = same_on_controller R spot _ _ (λ i c. (same_some R (unsigned_64 c.number) _ _ (λ v1. (same_give R v1))))

pub same_read_borrow_type : (R : Runs) (x1 : Spot) → Same R (read_borrow_type x1) (read_borrow_type x1)
same_read_borrow_type R spot = same_on_controller R spot _ _ (λ i c. (same_give R (type_tree c.borrow)))

pub same_read_tag : (R : Runs) (x1 : Spot) → Same R (read_tag x1) (read_tag x1)
same_read_tag R spot = same_on_controller R spot _ _ (λ i c. (same_give R (text_tree c.tag)))

pub same_read_target : (R : Runs) (x1 : Spot) → Same R (read_target x1) (read_target x1)
same_read_target R spot = same_on_controller R spot _ _ (λ i c. (same_give R (of_plain (v.path (record { domain = d.Storage; identifier = c.target })))))

pub same_set_tag : (R : Runs) (x1 : Row) (x2 : Spot) → Same R (set_tag x1 x2) (set_tag x1 x2)
same_set_tag R r spot = same_on_controller R spot _ _ (λ i c. (same_some R (option_and_then text_in (argument 0 r)) _ _ (λ text. (same_becomes R (λ x. record x { tag = text }) i))))

pub same_retarget : (R : Runs) (x1 : Row) (x2 : Spot) → Same R (retarget x1 x2) (retarget x1 x2)
same_retarget R r spot = same_on_controller R spot _ _ (λ i c. (same_with_identifier R d.Storage 0 r _ _ (λ name. (same_becomes R (λ x. record x { target = name }) i))))

pub same_delete : (R : Runs) (x1 : Spot) → Same R (delete x1) (delete x1)
same_delete R spot = same_on_controller R spot _ _ (λ i c. (same_self R _ (λ s. self_units s.units)))
