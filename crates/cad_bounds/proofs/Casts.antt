-- Casts: the same while the units last.
use Rattle.std.specs.Prelude.{ℕ, Bool, true, false, not, Option, Some, None}
use Rattle.cad_syntax.specs.Types.{PureType, reference}
use Rattle.cad_syntax.specs.declared.types.Authorization.{Authorization}
use Rattle.cad_grammar.specs.declared.expression.CastKind.{CastKind}
use Rattle.cad_grammar.specs.declared.expression.CastKind.TheVariants.{Static, Failable, Forced}
use Rattle.cad_types.specs.Below.{below}
use Rattle.cad_types.specs.Optionals.{optionals}
use Rattle.cad_values.specs.Values.{PureValue}
use Rattle.cad_values.specs.Values as v
use Rattle.cad_values.specs.declared.value.Target.{Target}
use Rattle.cad_values.specs.declared.value.Target.TheVariants as to
use Rattle.cad_world.specs.Rows.{Tree, plain, NodeShape}
use Rattle.cad_world.specs.State.{Action}
use Rattle.cad_world.specs.Trees.{wrapped, nil_tree}
use Rattle.cad_world.specs.Declared.{declarations}
use Rattle.cad_world.specs.OwnTypes.{own_type}
use Rattle.cad_world.specs.Locations.{Location}
use Rattle.cad_world.specs.Receivers.{Spot, is_reference_shape}
use Rattle.cad_evaluation.specs.Changing.{Content, nothing, content, no_optional, content_of}
use Rattle.cad_evaluation.specs.Numbers.{bool_tree}
use Rattle.cad_evaluation.specs.Texts.{in_tree}
use Rattle.cad_evaluation.specs.Casts.{one_less, link_tree, refer, refer_optional, refer_to, nil_if, borrowed, dereferenced, with_type, stored_type, with_cast_target, with_cast_value, with_cast_shape, with_cast_type, cast_or, cast, type_tree, type_in_value, spot_type, with_spot_type, type_told, instance_told}
use Rattle.cad_bounds.proofs.Same.{Runs, Same, same_give, same_fail, same_stuck, same_some, same_or_fail, same_require, same_choose, same_bind}
use Rattle.cad_bounds.proofs.Locations.{same_name}
use Rattle.cad_bounds.proofs.Reading.{same_copied}
use Rattle.cad_bounds.proofs.Receivers.{same_deref}
use Rattle.cad_bounds.proofs.Transfers.{same_transferred}

pub same_refer : (R : Runs) (x1 : Authorization) (x2 : Location) (x3 : ℕ) → Same R (refer x1 x2 x3) (refer x1 x2 x3)
same_refer R a x n = same_bind R _ _ _ _ (same_name R x) (λ l. (same_give R (link_tree a l n)))

pub same_refer_optional : (R : Runs) (x1 : Authorization) (x2 : Location) (x3 : Bool) (x4 : Content) (x5 : Tree) → Same R (refer_optional x1 x2 x3 x4 x5) (refer_optional x1 x2 x3 x4 x5)
same_refer_optional R a x one nothing t = same_give R nil_tree
same_refer_optional R a x one (content v) t = same_bind R _ _ _ _ (same_refer R a x (one_less one t.optionals)) (λ r. (same_give R (wrapped r)))
same_refer_optional R a x one no_optional t = same_stuck R

pub same_refer_to : (R : Runs) (x1 : Authorization) (x2 : Location) (x3 : Bool) (x4 : Bool) (x5 : Tree) → Same R (refer_to x1 x2 x3 x4 x5) (refer_to x1 x2 x3 x4 x5)
same_refer_to R a x one true t = same_refer_optional R a x one (content_of t) t
same_refer_to R a x one false t = same_refer R a x (one_less one t.optionals)

pub same_nil_if : (R : Runs) (x1 : Bool) → Same R (nil_if x1) (nil_if x1)
same_nil_if R true = same_give R nil_tree
same_nil_if R false = same_stuck R

pub same_borrowed : (R : Runs) (x1 : Authorization) (x2 : Location) (x3 : Bool) (x4 : Bool) (x5 : Option Tree) → Same R (borrowed x1 x2 x3 x4 x5) (borrowed x1 x2 x3 x4 x5)
same_borrowed R a x one wraps None = same_nil_if R wraps
same_borrowed R a x one wraps (Some t) = same_require R 107 (not (is_reference_shape t.shape)) _ _ (same_refer_to R a x one wraps t)

pub same_dereferenced : (R : Runs) (x1 : Spot) → Same R (dereferenced x1) (dereferenced x1)
same_dereferenced R spot = same_copied R spot.tree

pub same_with_type : {A : Type 0} (R : Runs) (x1 : Tree) (x2 x2' : PureType → Action A) → ((y0 : PureType) → Same R (x2 y0) (x2' y0)) → Same {A = A} R (with_type x1 x2) (with_type x1 x2')
same_with_type R t f f' h_f = λ s low. (same_or_fail R 113 (own_type s t) _ _ h_f) s low

pub same_stored_type : (R : Runs) (x1 : Tree) (x2 : Authorization) (x3 : Spot) (x4 x4' : PureType → Action Tree) → ((y0 : PureType) → Same R (x4 y0) (x4' y0)) → Same R (stored_type x1 x2 x3 x4) (stored_type x1 x2 x3 x4')
same_stored_type R t a spot f f' h_f = same_with_type R spot.tree _ _ (λ own. (h_f (optionals t.optionals (reference a own))))

pub same_with_cast_target : (R : Runs) (x1 : Tree) (x2 : PureValue) (x3 : Authorization) (x4 : Target) (x5 x5' : PureType → Action Tree) → ((y0 : PureType) → Same R (x5 y0) (x5' y0)) → Same R (with_cast_target x1 x2 x3 x4 x5) (with_cast_target x1 x2 x3 x4 x5')
same_with_cast_target R t x a (to.Stored address n) f f' h_f = same_bind R _ _ _ _ (same_deref R (plain x)) (λ spot. (same_stored_type R t a spot _ _ h_f))
same_with_cast_target R t x a target f f' h_f = same_with_type R t _ _ h_f

pub same_with_cast_value : (R : Runs) (x1 : Tree) (x2 : PureValue) (x3 x3' : PureType → Action Tree) → ((y0 : PureType) → Same R (x3 y0) (x3' y0)) → Same R (with_cast_value x1 x2 x3) (with_cast_value x1 x2 x3')
same_with_cast_value R t (v.reference a type target) f f' h_f = same_with_cast_target R t (v.reference a type target) a target _ _ h_f
same_with_cast_value R t x f f' h_f = same_with_type R t _ _ h_f

pub same_with_cast_shape : (R : Runs) (x1 : Tree) (x2 : NodeShape) (x3 x3' : PureType → Action Tree) → ((y0 : PureType) → Same R (x3 y0) (x3' y0)) → Same R (with_cast_shape x1 x2 x3) (with_cast_shape x1 x2 x3')
same_with_cast_shape R t (plain x) f f' h_f = same_with_cast_value R t x _ _ h_f
same_with_cast_shape R t shape f f' h_f = same_with_type R t _ _ h_f

pub same_with_cast_type : (R : Runs) (x1 : Tree) (x2 x2' : PureType → Action Tree) → ((y0 : PureType) → Same R (x2 y0) (x2' y0)) → Same R (with_cast_type x1 x2) (with_cast_type x1 x2')
same_with_cast_type R t f f' h_f = same_with_cast_shape R t t.shape _ _ h_f

pub same_cast_or : (R : Runs) (x1 x1' : Action Tree) (x2 : PureType) (x3 : Tree) (x4 x4' : Tree → Action Tree) → Same R x1 x1' → ((y0 : Tree) → Same R (x4 y0) (x4' y0)) → Same R (cast_or x1 x2 x3 x4) (cast_or x1' x2 x3 x4')
same_cast_or R otherwise otherwise' type t f f' h_otherwise h_f = same_with_cast_type R t _ _ (λ own. (λ s low. (same_choose R (below (declarations s) own type) _ _ _ _ (same_bind R _ _ _ _ (same_transferred R type t) h_f) h_otherwise) s low))

pub same_cast : (R : Runs) (x1 : CastKind) (x2 : PureType) (x3 : Tree) → Same R (cast x1 x2 x3) (cast x1 x2 x3)
same_cast R Static type t = same_with_cast_type R t _ _ (λ own. (same_transferred R type t))
same_cast R Failable type t = same_cast_or R _ _ type t _ _ (same_give R nil_tree) (λ v. (same_give R (wrapped v)))
same_cast R Forced type t = same_cast_or R _ _ type t _ _ (same_fail R 107) (λ v1. (same_give R v1))

pub same_with_spot_type : (R : Runs) (x1 : Spot) (x2 x2' : PureType → Action Tree) → ((y0 : PureType) → Same R (x2 y0) (x2' y0)) → Same R (with_spot_type x1 x2) (with_spot_type x1 x2')
same_with_spot_type R spot f f' h_f = λ s low. (same_or_fail R 113 (spot_type s spot.label spot.rights spot.tree) _ _ h_f) s low

pub same_type_told : (R : Runs) (x1 : Spot) → Same R (type_told x1) (type_told x1)
same_type_told R spot = same_with_spot_type R spot _ _ (λ own. (same_give R (type_tree own)))

pub same_instance_told : (R : Runs) (x1 : Spot) (x2 : Tree) → Same R (instance_told x1 x2) (instance_told x1 x2)
same_instance_told R spot t = same_some R (in_tree type_in_value t) _ _ (λ type. (same_with_spot_type R spot _ _ (λ own. (λ s low. (same_give R (bool_tree (below (declarations s) own type))) s low))))
