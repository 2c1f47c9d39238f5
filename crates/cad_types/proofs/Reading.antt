-- Reading through a reference keeps the order, and gives no resource type.
use Rattle.std.proofs.Common.{◌≡◌, Bool, true, false, List, refl, ap, sym, ◌∙◌, inl, inr}
use Rattle.std.proofs.lemmas.Bool.{false≢true}
use Rattle.cad_syntax.specs.Types.{PureType, basic, optional, array, dictionary, intersection, declared, reference, capability, capability_of}
use Rattle.cad_syntax.specs.declared.types.Authorization.{Authorization}
use Rattle.cad_syntax.specs.declared.types.Basic.{Basic}
use Rattle.cad_syntax.specs.declared.types.Basic.TheVariants as b
use Rattle.cad_syntax.proofs.Members.{or_cases, and_both}
use Rattle.cad_auth.specs.Tests.{grants}
use Rattle.cad_types.specs.Basics.{same_basic}
use Rattle.cad_types.specs.Below.{is_never, by_class, is_path_into, below_basic, below}
use Rattle.cad_types.specs.Declarations.{Declaration, is_any_resource, resource}
use Rattle.cad_types.specs.Laws.{ReadingKeepsOrder, ReadingIsPlain}
use Rattle.cad_types.specs.Optionals.{reading, reading_basic}
use Rattle.cad_types.proofs.Decision.{basics_tell, and_true, itself, never_under}

module _ (k : List Declaration) where
  -- what is below a basic type by its class
  class_struct : (r p : Bool) (c : Basic) → by_class r p c ≡ true → is_any_resource c ≡ false → (c ≡ b.AnyStruct) × (r ≡ false)
  class_struct true p b.AnyStruct e f = cc
  class_struct false p b.AnyStruct e f = (refl, refl)
  class_struct r p b.AnyResource e f = cc
  class_struct r p _ e f = cc

  -- no type that is read is a resource type
  plain : (a : Authorization) (t : PureType) → resource k (reading a t) ≡ false
  plain a (optional t) = plain a t
  plain a (array t) = refl
  plain a (dictionary p t) = refl
  plain a (intersection ids) = refl
  plain a (declared id) = refl
  plain a (basic b.AnyResource) = refl
  plain a (basic t) = refl
  plain a (reference x t) = refl
  plain a capability = refl
  plain a (capability_of t) = refl

  grants_self : (a : Authorization) → grants a a ≡ true
  grants_self a = (and_both (grants a a) (below k (basic b.Never) (basic b.Never)) (itself k (reference a (basic b.Never)))).0

  linked_under : (a : Authorization) (t u : PureType) → below k t u ≡ true → below k (reference a t) (reference a u) ≡ true
  linked_under a t u e = and_true (grants a a) (below k t u) (grants_self a) e

  -- a reference to what is below a basic type
  read_basic : (a : Authorization) (r p : Bool) (t : PureType) (u : Basic) → below k t (basic u) ≡ true → by_class r p u ≡ true → below k (reference a t) (reading_basic a u) ≡ true
  read_basic a r p t b.AnyResource e h = linked_under a t (basic b.AnyResource) e
  read_basic a r p t b.AnyStruct e h = refl
  read_basic a r p t _ e h = cc

  read_optional : (a : Authorization) (r : Bool) (t : PureType) (u : Basic) → by_class r false u ≡ true → below k (optional (reading a t)) (reading_basic a u) ≡ true
  read_optional a r t b.AnyStruct h = rw (plain a t) refl
  read_optional a r t b.AnyResource h = cc
  read_optional a r t _ h = cc

  read_under : (a : Authorization) (r p : Bool) (t : PureType) (u : Basic) → by_class r p u ≡ true → p ≡ false → by_class false false u ≡ true
  read_under a r p t b.AnyStruct h e = refl
  read_under a r p t b.AnyResource h e = cc
  read_under a r p t _ h e = cc

  basics_read : (a : Authorization) (t u : Basic) → below_basic t u ≡ true → below k (reading_basic a t) (reading_basic a u) ≡ true
  basics_read a t u e = by (is_any_resource t) (is_any_resource u) refl refl
    where
      plain_read : (x : Basic) → is_any_resource x ≡ false → reading_basic a x ≡ basic x
      plain_read b.AnyResource q = cc
      plain_read x q = refl

      any_read : (x : Basic) → is_any_resource x ≡ true → reading_basic a x ≡ reference a (basic x)
      any_read b.AnyResource q = refl
      any_read x q = cc

      never_only : (x y : Basic) → below_basic x y ≡ true → is_any_resource x ≡ false → is_any_resource y ≡ true → is_never x ≡ true
      never_only x b.AnyResource f q r = elim (or_cases (same_basic x b.AnyResource) _ f) [
        | inl same ↦ absurd (false≢true (sym q ∙ ap is_any_resource ((basics_tell x b.AnyResource).0 same)))
        | inr rest ↦ elim (or_cases (is_never x) _ rest) [
          | inl h ↦ h
          | inr h ↦ elim (or_cases (is_any_resource x) (is_path_into x b.AnyResource) h) [ inl g ↦ absurd (false≢true (sym q ∙ g)) | inr g ↦ no_path x g ]
        ]
      ]
        where
          no_path : (x : Basic) → is_path_into x b.AnyResource ≡ true → is_never x ≡ true
          no_path b.StoragePath g = cc
          no_path b.PublicPath g = cc
          no_path x g = cc
      never_only x y f q r = cc

      any_only : (x y : Basic) → below_basic x y ≡ true → is_any_resource x ≡ true → is_any_resource y ≡ false → ⊥
      any_only b.AnyResource y f q r = elim (or_cases (same_basic b.AnyResource y) _ f) [
        | inl same ↦ absurd (false≢true (sym r ∙ sym (ap is_any_resource ((basics_tell b.AnyResource y).0 same))))
        | inr rest ↦ elim (or_cases (by_class true true y) (is_path_into b.AnyResource y) rest) [ inl g ↦ let z = class_struct true true y g r in let w = z.1 in cc | inr g ↦ cc ]
      ]
      any_only x y f q r = cc

      by : (x y : Bool) → is_any_resource t ≡ x → is_any_resource u ≡ y → below k (reading_basic a t) (reading_basic a u) ≡ true
      by true true p q = rw (any_read t p, any_read u q) (linked_under a (basic t) (basic u) e)
      by true false p q = absurd (any_only t u e p q)
      by false true p q = rw (plain_read t p, any_read u q) (never_only t u e p q)
      by false false p q = rw (plain_read t p, plain_read u q) e

  reads : (a : Authorization) (t u : PureType) → below k t u ≡ true → below k (reading a t) (reading a u) ≡ true
  reads a (basic t) (basic u) e = basics_read a t u e
  reads a (basic b.Never) u e = never_under k (reading a u)
  reads a (basic t) _ e = cc
  reads a (optional t) (optional u) e = reads a t u e
  reads a (optional t) (basic u) e = read_optional a (resource k t) t u e
  reads a (optional t) _ e = cc
  reads a (array t) (array u) e = linked_under a (array t) (array u) e
  reads a (array t) (basic u) e = read_basic a _ _ (array t) u e e
  reads a (array t) _ e = cc
  reads a (dictionary p t) (dictionary q u) e = linked_under a (dictionary p t) (dictionary q u) e
  reads a (dictionary p t) (basic u) e = read_basic a _ _ (dictionary p t) u e e
  reads a (dictionary p t) _ e = cc
  reads a (intersection these) (intersection those) e = linked_under a (intersection these) (intersection those) e
  reads a (intersection these) (basic u) e = read_basic a _ _ (intersection these) u e e
  reads a (intersection these) _ e = cc
  reads a (declared id) (declared other) e = linked_under a (declared id) (declared other) e
  reads a (declared id) (intersection ids) e = linked_under a (declared id) (intersection ids) e
  reads a (declared id) (basic u) e = read_basic a _ _ (declared id) u e e
  reads a (declared id) _ e = cc
  reads a (reference x t) (reference y u) e = e
  reads a (reference x t) (basic b.AnyResource) e = cc
  reads a (reference x t) (basic u) e = e
  reads a (reference x t) _ e = cc
  reads a capability capability e = refl
  reads a capability (basic b.AnyResource) e = cc
  reads a capability (basic u) e = e
  reads a capability _ e = cc
  reads a (capability_of t) (capability_of u) e = e
  reads a (capability_of t) capability e = refl
  reads a (capability_of t) (basic b.AnyResource) e = cc
  reads a (capability_of t) (basic u) e = e
  reads a (capability_of t) _ e = cc

pub reading_keeps_order : ReadingKeepsOrder
reading_keeps_order = reads

pub reading_is_plain : ReadingIsPlain
reading_is_plain = plain
