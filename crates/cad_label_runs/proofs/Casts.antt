-- Casts: labels are kept apart, and values in hand have none.
use Rattle.std.specs.Prelude.{ℕ, Bool, true, false, not, Option, Some, None}
use Rattle.cad_syntax.specs.Types.{PureType, reference}
use Rattle.cad_syntax.specs.declared.types.Authorization.{Authorization}
use Rattle.cad_grammar.specs.declared.expression.CastKind.{CastKind}
use Rattle.cad_grammar.specs.declared.expression.CastKind.TheVariants.{Static, Failable, Forced}
use Rattle.cad_types.specs.Below.{below}
use Rattle.cad_types.specs.Optionals.{optionals}
use Rattle.cad_values.specs.Values.{PureValue}
use Rattle.cad_values.specs.Values as v
use Rattle.cad_values.specs.declared.value.Target.{Target}
use Rattle.cad_values.specs.declared.value.Target.TheVariants as to
use Rattle.cad_world.specs.Rows.{Tree, plain, NodeShape}
use Rattle.cad_world.specs.State.{Action}
use Rattle.cad_world.specs.Trees.{wrapped, nil_tree}
use Rattle.cad_world.specs.Declared.{declarations}
use Rattle.cad_world.specs.Locations.{Location}
use Rattle.cad_world.specs.Receivers.{Spot, is_reference_shape}
use Rattle.cad_evaluation.specs.Changing.{Content, nothing, content, no_optional, content_of}
use Rattle.cad_evaluation.specs.Numbers.{bool_tree}
use Rattle.cad_evaluation.specs.Texts.{in_tree}
use Rattle.cad_evaluation.specs.Casts.{one_less, link_tree, refer, refer_optional, refer_to, nil_if, borrowed, dereferenced, stored_type, with_cast_target, with_cast_value, with_cast_shape, with_cast_type, cast_or, cast, type_tree, type_in_value, spot_type, with_spot_type, type_told, instance_told}
use Rattle.std.proofs.Common.{refl}
use Rattle.cad_labels.specs.Laws.{HasNone, Keeps, AnyOne}
use Rattle.cad_world.specs.State.{give}
use Rattle.cad_labels.proofs.Accounts.{type_keeps}
use Rattle.cad_labels.proofs.Forms.{keeps_choose, keeps_fail, keeps_give, keeps_or_fail, keeps_require, keeps_some, keeps_stuck}
use Rattle.cad_labels.proofs.Keeping.{keeps_bind}
use Rattle.cad_labels.proofs.Members.{copied_keeps}
use Rattle.cad_labels.proofs.Places.{deref_keeps, naming_keeps, transferred_keeps}

pub refer_keeps : (x1 : Authorization) (x2 : Location) (x3 : ℕ) → Keeps HasNone (refer x1 x2 x3)
refer_keeps a x n = keeps_bind AnyOne HasNone _ (λ l. give (link_tree a l n)) (naming_keeps x) (λ l h_l. keeps_give HasNone (link_tree a l n) (λ p. refl))

pub refer_optional_keeps : (x1 : Authorization) (x2 : Location) (x3 : Bool) (x4 : Content) (x5 : Tree) → Keeps HasNone (refer_optional x1 x2 x3 x4 x5)
refer_optional_keeps a x one nothing t = keeps_give HasNone nil_tree (λ p. refl)
refer_optional_keeps a x one (content v) t = keeps_bind HasNone HasNone _ (λ r. give (wrapped r)) (refer_keeps a x (one_less one t.optionals)) (λ r h_r. keeps_give HasNone (wrapped r) h_r)
refer_optional_keeps a x one no_optional t = keeps_stuck HasNone

pub refer_to_keeps : (x1 : Authorization) (x2 : Location) (x3 : Bool) (x4 : Bool) (x5 : Tree) → Keeps HasNone (refer_to x1 x2 x3 x4 x5)
refer_to_keeps a x one true t = refer_optional_keeps a x one (content_of t) t
refer_to_keeps a x one false t = refer_keeps a x (one_less one t.optionals)

pub nil_if_keeps : (x1 : Bool) → Keeps HasNone (nil_if x1)
nil_if_keeps true = keeps_give HasNone nil_tree (λ p. refl)
nil_if_keeps false = keeps_stuck HasNone

pub borrowed_keeps : (x1 : Authorization) (x2 : Location) (x3 : Bool) (x4 : Bool) (x5 : Option Tree) → Keeps HasNone (borrowed x1 x2 x3 x4 x5)
borrowed_keeps a x one wraps None = nil_if_keeps wraps
borrowed_keeps a x one wraps (Some t) = keeps_require HasNone 107 (not (is_reference_shape t.shape)) _ (refer_to_keeps a x one wraps t)

pub dereferenced_keeps : (x1 : Spot) → Keeps HasNone (dereferenced x1)
dereferenced_keeps spot = copied_keeps spot.tree

pub stored_type_keeps : (x1 : Tree) (x2 : Authorization) (x3 : Spot) (x4 : PureType → Action Tree) → ((y0 : PureType) → Keeps HasNone (x4 y0)) → Keeps HasNone (stored_type x1 x2 x3 x4)
stored_type_keeps t a spot f h_f = type_keeps HasNone spot.tree _ (λ own. h_f (optionals t.optionals (reference a own)))

pub with_cast_target_keeps : (x1 : Tree) (x2 : PureValue) (x3 : Authorization) (x4 : Target) (x5 : PureType → Action Tree) → ((y0 : PureType) → Keeps HasNone (x5 y0)) → Keeps HasNone (with_cast_target x1 x2 x3 x4 x5)
with_cast_target_keeps t x a (to.Stored address n) f h_f = keeps_bind AnyOne HasNone _ _ (deref_keeps (plain x)) (λ spot h_spot. stored_type_keeps t a spot _ (λ w1. h_f w1))
with_cast_target_keeps t x a target f h_f = type_keeps HasNone t _ (λ w2. h_f w2)

pub with_cast_value_keeps : (x1 : Tree) (x2 : PureValue) (x3 : PureType → Action Tree) → ((y0 : PureType) → Keeps HasNone (x3 y0)) → Keeps HasNone (with_cast_value x1 x2 x3)
with_cast_value_keeps t (v.reference a type target) f h_f = with_cast_target_keeps t (v.reference a type target) a target _ (λ w3. h_f w3)
with_cast_value_keeps t x f h_f = type_keeps HasNone t _ (λ w4. h_f w4)

pub with_cast_shape_keeps : (x1 : Tree) (x2 : NodeShape) (x3 : PureType → Action Tree) → ((y0 : PureType) → Keeps HasNone (x3 y0)) → Keeps HasNone (with_cast_shape x1 x2 x3)
with_cast_shape_keeps t (plain x) f h_f = with_cast_value_keeps t x _ (λ w5. h_f w5)
with_cast_shape_keeps t shape f h_f = type_keeps HasNone t _ (λ w6. h_f w6)

pub with_cast_type_keeps : (x1 : Tree) (x2 : PureType → Action Tree) → ((y0 : PureType) → Keeps HasNone (x2 y0)) → Keeps HasNone (with_cast_type x1 x2)
with_cast_type_keeps t f h_f = with_cast_shape_keeps t t.shape _ (λ w7. h_f w7)

pub cast_or_keeps : (x1 : Action Tree) (x2 : PureType) (x3 : Tree) (x4 : Tree → Action Tree) → HasNone x3 → Keeps HasNone x1 → ((y0 : Tree) → HasNone y0 → Keeps HasNone (x4 y0)) → Keeps HasNone (cast_or x1 x2 x3 x4)
cast_or_keeps otherwise type t f n2 h_otherwise h_f = with_cast_type_keeps t _ (λ own. λ s once. (keeps_choose HasNone (below (declarations s) own type) _ _ (keeps_bind HasNone HasNone _ _ (transferred_keeps type t n2) (λ w8 w9. h_f w8 w9)) h_otherwise) s once)

pub cast_keeps : (x1 : CastKind) (x2 : PureType) (x3 : Tree) → HasNone x3 → Keeps HasNone (cast x1 x2 x3)
cast_keeps Static type t n2 = with_cast_type_keeps t _ (λ own. transferred_keeps type t n2)
cast_keeps Failable type t n2 = cast_or_keeps _ type t _ n2 (keeps_give HasNone nil_tree (λ p. refl)) (λ v h_v. keeps_give HasNone (wrapped v) h_v)
cast_keeps Forced type t n2 = cast_or_keeps _ type t _ n2 (keeps_fail HasNone 107) (λ v1 h_v1. keeps_give HasNone v1 h_v1)

pub with_spot_type_keeps : (x1 : Spot) (x2 : PureType → Action Tree) → ((y0 : PureType) → Keeps HasNone (x2 y0)) → Keeps HasNone (with_spot_type x1 x2)
with_spot_type_keeps spot f h_f = λ s once. (keeps_or_fail HasNone 113 (spot_type s spot.label spot.rights spot.tree) _ (λ w10. h_f w10)) s once

pub type_told_keeps : (x1 : Spot) → Keeps HasNone (type_told x1)
type_told_keeps spot = with_spot_type_keeps spot _ (λ own. keeps_give HasNone (type_tree own) (λ p. refl))

pub instance_told_keeps : (x1 : Spot) (x2 : Tree) → Keeps HasNone (instance_told x1 x2)
instance_told_keeps spot t = keeps_some HasNone (in_tree type_in_value t) _ (λ type. with_spot_type_keeps spot _ (λ own. λ s once. (keeps_give HasNone (bool_tree (below (declarations s) own type)) (λ p. refl)) s once))
