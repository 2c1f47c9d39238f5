-- The test of the order tells the conditions, and so the least relation with the rules.
use Rattle.std.proofs.Common.{◌≡◌, ℕ, Bool, true, false, ◌||◌, ◌&&◌, ◌↔◌, IsTrue, List, refl, ap, sym, ◌∙◌, subst, inl, inr}
use Rattle.std.specs.Prelude.{[], ◌∷◌, Some, slice_get}
use Rattle.std.proofs.lemmas.Bool.{false≢true, eqb-true, eq-eqb}
use Rattle.std.specs.List.{list_any, list_all}
use Rattle.cad_syntax.specs.TypeIds.{has}
use Rattle.cad_syntax.specs.Types.{PureType, basic, optional, array, dictionary, intersection, declared, reference, capability, capability_of}
use Rattle.cad_syntax.specs.declared.type_id.TypeId.{TypeId}
use Rattle.cad_syntax.specs.declared.kind.Kind.{Kind}
use Rattle.cad_syntax.specs.declared.kind.Kind.TheVariants as n
use Rattle.cad_syntax.specs.declared.types.Authorization.{Authorization}
use Rattle.cad_syntax.specs.declared.types.Basic.{Basic}
use Rattle.cad_syntax.specs.declared.types.Basic.TheVariants as b
use Rattle.cad_syntax.proofs.Members.{or_cases, or_right, and_both}
use Rattle.cad_syntax.proofs.Same.{ids_tell}
use Rattle.cad_auth.specs.Grants.{Grants}
use Rattle.cad_auth.specs.Tests.{grants}
use Rattle.cad_auth.proofs.CoverTests.{grants_tells}
use Rattle.cad_types.specs.Basics.{kind_number, basic_number, same_basic}
use Rattle.cad_types.specs.Below.{has_interface, same_truth, below_basic, narrower, conforms, below}
use Rattle.cad_types.specs.Declarations.{Declaration, IsClosed, interfaces_of, is_resource_id, resource}
use Rattle.cad_types.specs.Laws.{NeedsNoStepsBetween}
use Rattle.cad_types.specs.Sub as s
use Rattle.cad_types.specs.Sub.{Sub}
use Rattle.cad_types.proofs.Conditions.{BasicBelow, Narrower, Conforms, Below}
use Rattle.cad_types.proofs.Order.{from_sub, to_sub, resource_up, below_itself}

-- Basic types.

all_basics : List Basic
all_basics =
    b.Number n.Int ∷ b.Number n.Int8 ∷ b.Number n.Int16 ∷ b.Number n.Int32 ∷ b.Number n.Int64 ∷ b.Number n.Int128 ∷
    b.Number n.UInt ∷ b.Number n.UInt8 ∷ b.Number n.UInt16 ∷ b.Number n.UInt32 ∷ b.Number n.UInt64 ∷
    b.Number n.UInt128 ∷ b.Number n.Word8 ∷ b.Number n.Word16 ∷ b.Number n.Word32 ∷ b.Number n.Word64 ∷
    b.Number n.Word128 ∷ b.Number n.Fix64 ∷ b.Number n.UFix64 ∷ b.Number n.Address ∷ b.Void ∷ b.Never ∷ b.Bool ∷
    b.Character ∷ b.String ∷ b.Path ∷ b.StoragePath ∷ b.PublicPath ∷ b.Meta ∷ b.AnyStruct ∷ b.AnyResource ∷
    b.Account ∷ b.AccountStorage ∷ b.AccountContracts ∷ b.AccountCapabilities ∷ b.AccountStorageCapabilities ∷
    b.StorageCapabilityController ∷ []

found_kind : (t : Kind) → slice_get all_basics (kind_number t) ≡ Some (b.Number t)
unfolding all_basics
found_kind n.Int = refl
found_kind n.Int8 = refl
found_kind n.Int16 = refl
found_kind n.Int32 = refl
found_kind n.Int64 = refl
found_kind n.Int128 = refl
found_kind n.UInt = refl
found_kind n.UInt8 = refl
found_kind n.UInt16 = refl
found_kind n.UInt32 = refl
found_kind n.UInt64 = refl
found_kind n.UInt128 = refl
found_kind n.Word8 = refl
found_kind n.Word16 = refl
found_kind n.Word32 = refl
found_kind n.Word64 = refl
found_kind n.Word128 = refl
found_kind n.Fix64 = refl
found_kind n.UFix64 = refl
found_kind n.Address = refl

found_basic : (t : Basic) → slice_get all_basics (basic_number t) ≡ Some t
unfolding all_basics
found_basic (b.Number k) = found_kind k
found_basic b.Void = refl
found_basic b.Never = refl
found_basic b.Bool = refl
found_basic b.Character = refl
found_basic b.String = refl
found_basic b.Path = refl
found_basic b.StoragePath = refl
found_basic b.PublicPath = refl
found_basic b.Meta = refl
found_basic b.AnyStruct = refl
found_basic b.AnyResource = refl
found_basic b.Account = refl
found_basic b.AccountStorage = refl
found_basic b.AccountContracts = refl
found_basic b.AccountCapabilities = refl
found_basic b.AccountStorageCapabilities = refl
found_basic b.StorageCapabilityController = refl

pub basics_tell : (t u : Basic) → (same_basic t u ≡ true → t ≡ u) × (t ≡ u → same_basic t u ≡ true)
basics_tell t u = (λ e. one (subst (λ (m : ℕ). slice_get all_basics m ≡ Some u) (sym (eqb-true (basic_number t) (basic_number u) e)) (found_basic u)), λ e. eq-eqb (basic_number t) (basic_number u) (ap basic_number e))
  where
    one : slice_get all_basics (basic_number t) ≡ Some u → t ≡ u
    one e = let h = found_basic t in cc

truths_tell : (x y : Bool) → (same_truth x y ≡ true → x ≡ y) × (x ≡ y → same_truth x y ≡ true)
truths_tell true true = (λ e. refl, λ e. refl)
truths_tell true false = (λ e. cc, λ e. cc)
truths_tell false true = (λ e. cc, λ e. cc)
truths_tell false false = (λ e. refl, λ e. refl)

pub and_true : (x y : Bool) → x ≡ true → y ≡ true → (x && y) ≡ true
and_true true y e f = f
and_true false y e f = cc

or_first : (x y : Bool) → x ≡ true → (x || y) ≡ true
or_first true y e = refl
or_first false y e = cc

grants_to : (x y : Authorization) → grants x y ≡ true → Grants x y
grants_to x y = (grants_tells x y).0

to_grants : (x y : Authorization) → Grants x y → grants x y ≡ true
to_grants x y = (grants_tells x y).1

basic_to : (t u : Basic) → below_basic t u ≡ true → BasicBelow t u
basic_to t u e = elim (or_cases (same_basic t u) _ e) [ inl same ↦ inl ((basics_tell t u).0 same) | inr rest ↦ inr rest ]

to_basic : (t u : Basic) → BasicBelow t u → below_basic t u ≡ true
to_basic t u (inl e) = or_first (same_basic t u) _ ((basics_tell t u).1 e)
to_basic t u (inr e) = or_right (same_basic t u) _ e

-- All types.

module _ (k : List Declaration) where
  narrower_to : (these those : List TypeId) → narrower k these those ≡ true → Narrower k these those
  narrower_to these those e = let h = and_both (same_truth (list_any (is_resource_id k) these) (list_any (is_resource_id k) those)) (list_all (has_interface k these) those) e in
      ((truths_tell (list_any (is_resource_id k) these) (list_any (is_resource_id k) those)).0 h.0, h.1)

  to_narrower : (these those : List TypeId) → Narrower k these those → narrower k these those ≡ true
  to_narrower these those h = and_true _ _ ((truths_tell (list_any (is_resource_id k) these) (list_any (is_resource_id k) those)).1 h.0) h.1

  conforms_to : (id : TypeId) (ids : List TypeId) → conforms k id ids ≡ true → Conforms k id ids
  conforms_to id ids e = let h = and_both (same_truth (is_resource_id k id) (list_any (is_resource_id k) ids)) (list_all (has (interfaces_of k id)) ids) e in
      ((truths_tell (is_resource_id k id) (list_any (is_resource_id k) ids)).0 h.0, h.1)

  to_conforms : (id : TypeId) (ids : List TypeId) → Conforms k id ids → conforms k id ids ≡ true
  to_conforms id ids h = and_true _ _ ((truths_tell (is_resource_id k id) (list_any (is_resource_id k) ids)).1 h.0) h.1

  pub below_to : (t u : PureType) → below k t u ≡ true → Below k t u
  below_to (basic t) (basic u) e = basic_to t u e
  below_to (basic t) u e = e
  below_to (optional t) (optional u) e = below_to t u e
  below_to (optional t) (basic u) e = e
  below_to (optional t) u e = absurd (false≢true e)
  below_to (array t) (array u) e = below_to t u e
  below_to (array t) (basic u) e = e
  below_to (array t) u e = absurd (false≢true e)
  below_to (dictionary p t) (dictionary q u) e = let b = and_both (below k p q) (below k t u) e in (below_to p q b.0, below_to t u b.1)
  below_to (dictionary p t) (basic u) e = e
  below_to (dictionary p t) u e = absurd (false≢true e)
  below_to (intersection these) (intersection those) e = narrower_to these those e
  below_to (intersection these) (basic u) e = e
  below_to (intersection these) u e = absurd (false≢true e)
  below_to (declared id) (declared other) e = (ids_tell id other).0 e
  below_to (declared id) (intersection ids) e = conforms_to id ids e
  below_to (declared id) (basic u) e = e
  below_to (declared id) u e = absurd (false≢true e)
  below_to (reference x t) (reference y u) e = let b = and_both (grants x y) (below k t u) e in (grants_to x y b.0, below_to t u b.1)
  below_to (reference x t) (basic u) e = e
  below_to (reference x t) u e = absurd (false≢true e)
  below_to capability capability e = tt
  below_to capability (basic u) e = e
  below_to capability u e = absurd (false≢true e)
  below_to (capability_of t) (capability_of u) e = below_to t u e
  below_to (capability_of t) capability e = tt
  below_to (capability_of t) (basic u) e = e
  below_to (capability_of t) u e = absurd (false≢true e)

  pub to_below : (t u : PureType) → Below k t u → below k t u ≡ true
  to_below (basic t) (basic u) h = to_basic t u h
  to_below (basic t) u h = h
  to_below (optional t) (optional u) h = to_below t u h
  to_below (optional t) (basic u) h = h
  to_below (optional t) u h = absurd h
  to_below (array t) (array u) h = to_below t u h
  to_below (array t) (basic u) h = h
  to_below (array t) u h = absurd h
  to_below (dictionary p t) (dictionary q u) h = and_true _ _ (to_below p q h.0) (to_below t u h.1)
  to_below (dictionary p t) (basic u) h = h
  to_below (dictionary p t) u h = absurd h
  to_below (intersection these) (intersection those) h = to_narrower these those h
  to_below (intersection these) (basic u) h = h
  to_below (intersection these) u h = absurd h
  to_below (declared id) (declared other) h = (ids_tell id other).1 h
  to_below (declared id) (intersection ids) h = to_conforms id ids h
  to_below (declared id) (basic u) h = h
  to_below (declared id) u h = absurd h
  to_below (reference x t) (reference y u) h = and_true _ _ (to_grants x y h.0) (to_below t u h.1)
  to_below (reference x t) (basic u) h = h
  to_below (reference x t) u h = absurd h
  to_below capability capability h = refl
  to_below capability (basic u) h = h
  to_below capability u h = absurd h
  to_below (capability_of t) (capability_of u) h = to_below t u h
  to_below (capability_of t) capability h = refl
  to_below (capability_of t) (basic u) h = h
  to_below (capability_of t) u h = absurd h

  pub itself : (t : PureType) → below k t t ≡ true
  itself t = to_below t t (from_itself t)
    where
      from_itself : (t : PureType) → Below k t t
      from_itself t = below_itself k t

  pub never_under : (u : PureType) → below k (basic b.Never) u ≡ true
  never_under (basic b.Never) = refl
  never_under (basic u) = or_right (same_basic b.Never u) true refl
  never_under (optional u) = refl
  never_under (array u) = refl
  never_under (dictionary q u) = refl
  never_under (intersection ids) = refl
  never_under (declared id) = refl
  never_under (reference x u) = refl
  never_under capability = refl
  never_under (capability_of u) = refl

  pub up : (t u : PureType) → below k t u ≡ true → resource k t ≡ true → resource k u ≡ true
  up t u e r = resource_up k t u (below_to t u e) r

  pub down : (t u : PureType) → below k t u ≡ true → resource k u ≡ false → resource k t ≡ false
  down t u e r = by (resource k t) refl
    where
      by : (x : Bool) → resource k t ≡ x → resource k t ≡ false
      by true q = let z = up t u e q in cc
      by false q = q

  module _ (closed : IsClosed k) where
    pub test_tells : (t u : PureType) → (below k t u ≡ true) ↔ Sub k t u
    test_tells t u = (λ e. to_sub k t u (below_to t u e), λ h. to_below t u (from_sub k closed h))

    pub below_trans : (t u w : PureType) → below k t u ≡ true → below k u w ≡ true → below k t w ≡ true
    below_trans t u w e f = to_below t w (from_sub k closed (s.through (to_sub k t u (below_to t u e)) (to_sub k u w (below_to u w f))))

-- an answer that is the test's
pub answer_tells : (k : List Declaration) (r : Bool) (t u : PureType) → IsClosed k → r ≡ below k t u → (IsTrue r ↔ Sub k t u)
answer_tells k r t u closed e = (λ yes. (test_tells k closed t u).0 (sym e ∙ yes), λ sub. e ∙ (test_tells k closed t u).1 sub)

same_answers : (x y : Bool) → (x ≡ true → y ≡ true) → (y ≡ true → x ≡ true) → x ≡ y
same_answers true y f g = sym (f refl)
same_answers false true f g = g refl
same_answers false false f g = refl

-- an answer that tells what an authorization grants
pub grants_answer : (r : Bool) (x y : Authorization) → (IsTrue r ↔ Grants x y) → r ≡ grants x y
grants_answer r x y h = same_answers r (grants x y) (λ e. to_grants x y (h.0 e)) (λ e. h.1 (grants_to x y e))

pub order_needs_no_steps_between : NeedsNoStepsBetween
order_needs_no_steps_between = test_tells
