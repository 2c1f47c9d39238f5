-- The order by recursion is reflexive and transitive, and is the least relation with the rules.
use Rattle.std.proofs.Common.{◌≡◌, Bool, true, false, not, ◌||◌, List, Contains, refl, ap, sym, ◌∙◌, subst, ◌⊎◌, inl, inr}
use Rattle.std.proofs.lemmas.Bool.{false≢true}
use Rattle.std.specs.List.{list_any, list_all}
use Rattle.cad_syntax.specs.TypeIds.{same_id, has}
use Rattle.cad_syntax.specs.Types.{PureType, basic, optional, array, dictionary, intersection, declared, reference, capability, capability_of}
use Rattle.cad_syntax.specs.declared.type_id.TypeId.{TypeId}
use Rattle.cad_syntax.specs.declared.types.Basic.{Basic}
use Rattle.cad_syntax.specs.declared.types.Basic.TheVariants as b
use Rattle.cad_syntax.proofs.Members.{some_passes, passes_some, each_passes, passes_each, or_cases, or_right}
use Rattle.cad_syntax.proofs.Same.{ids_tell}
use Rattle.cad_auth.specs.Grants.{sets}
use Rattle.cad_auth.proofs.Covers.{covers_itself, covers_on, has_to, to_has}
use Rattle.cad_types.specs.Declarations.{Declaration, interfaces_of, is_any_resource, is_resource_id, resource, IsClosed}
use Rattle.cad_types.specs.Sub as s
use Rattle.cad_types.specs.Sub.{Sub, is_optional, HasInterface}
use Rattle.cad_types.specs.Below.{is_never, reaches_resource, by_class, is_path_into, has_interface}
use Rattle.cad_types.proofs.Conditions.{BasicBelow, Narrower, Conforms, Below}

not_false : (x : Bool) → not x ≡ true → x ≡ false
not_false true e = absurd (false≢true e)
not_false false e = refl

false_not : (x : Bool) → x ≡ false → not x ≡ true
false_not x e = rw e refl

or_left : (x y : Bool) → x ≡ true → (x || y) ≡ true
or_left x y e = rw e refl

-- x is false, since it would make y true
back : (x y : Bool) → (x ≡ true → y ≡ true) → y ≡ false → x ≡ false
back true y h e = absurd (false≢true (sym e ∙ h refl))
back false y h e = refl

-- Basic types.

class_cases : (r p : Bool) (c : Basic) → by_class r p c ≡ true → ((c ≡ b.AnyStruct) × (r ≡ false)) ⊎ ((c ≡ b.AnyResource) × (p ≡ true))
class_cases r p b.AnyStruct e = inl (refl, not_false r e)
class_cases r p b.AnyResource e = inr (refl, e)
class_cases r p _ e = absurd (false≢true e)

never_is : (c : Basic) → is_never c ≡ true → c ≡ b.Never
never_is b.Never e = refl
never_is _ e = absurd (false≢true e)

any_resource_is : (c : Basic) → is_any_resource c ≡ true → c ≡ b.AnyResource
any_resource_is b.AnyResource e = refl
any_resource_is _ e = absurd (false≢true e)

path_cases : (a c : Basic) → is_path_into a c ≡ true → (c ≡ b.Path) × (is_any_resource a ≡ false)
path_cases b.StoragePath b.Path e = (refl, refl)
path_cases b.PublicPath b.Path e = (refl, refl)
path_cases _ _ e = absurd (false≢true e)

-- AnyStruct is below itself alone, and AnyResource too.
struct_basic : (c : Basic) → BasicBelow b.AnyStruct c → c ≡ b.AnyStruct
struct_basic c (inl e) = sym e
struct_basic c (inr e) = elim (or_cases (by_class false false c) (is_path_into b.AnyStruct c) e) [
  | inl p ↦ elim (class_cases false false c p) [ inl q ↦ q.0 | inr q ↦ absurd (false≢true q.1) ]
  | inr p ↦ absurd (false≢true p)
]

resource_basic : (c : Basic) → BasicBelow b.AnyResource c → c ≡ b.AnyResource
resource_basic c (inl e) = sym e
resource_basic c (inr e) = elim (or_cases (by_class true true c) (is_path_into b.AnyResource c) e) [
  | inl p ↦ elim (class_cases true true c p) [ inl q ↦ absurd (false≢true (sym q.1)) | inr q ↦ q.0 ]
  | inr p ↦ absurd (false≢true p)
]

struct_top : (k : List Declaration) (w : PureType) → Below k (basic b.AnyStruct) w → w ≡ basic b.AnyStruct
struct_top k (basic c) h = ap basic (struct_basic c h)
struct_top k _ h = absurd (false≢true h)

resource_top : (k : List Declaration) (w : PureType) → Below k (basic b.AnyResource) w → w ≡ basic b.AnyResource
resource_top k (basic c) h = ap basic (resource_basic c h)
resource_top k _ h = absurd (false≢true h)

never_below : (k : List Declaration) (a : Basic) → is_never a ≡ true → (w : PureType) → Below k (basic a) w
never_below k a e (basic c) = inr (or_left (is_never a) (by_class (is_any_resource a) (is_any_resource a) c || is_path_into a c) e)
never_below k a e _ = e

-- by what one basic type is below another
data Reason (a c : Basic) : Type 0 where
  equal : a ≡ c → Reason a c
  never : is_never a ≡ true → Reason a c
  by_its_class : by_class (is_any_resource a) (is_any_resource a) c ≡ true → Reason a c
  path : is_path_into a c ≡ true → Reason a c

reason : (a c : Basic) → BasicBelow a c → Reason a c
reason a c (inl e) = equal e
reason a c (inr e) = elim (or_cases (is_never a) (by_class (is_any_resource a) (is_any_resource a) c || is_path_into a c) e) [
  | inl p ↦ never p
  | inr p ↦ elim (or_cases (by_class (is_any_resource a) (is_any_resource a) c) (is_path_into a c) p) [ inl q ↦ by_its_class q | inr q ↦ path q ]
]

from_class : (a c : Basic) → by_class (is_any_resource a) (is_any_resource a) c ≡ true → BasicBelow a c
from_class a c e = inr (or_right (is_never a) (by_class (is_any_resource a) (is_any_resource a) c || is_path_into a c) (or_left (by_class (is_any_resource a) (is_any_resource a) c) (is_path_into a c) e))

from_never : (a c : Basic) → is_never a ≡ true → BasicBelow a c
from_never a c e = inr (or_left (is_never a) (by_class (is_any_resource a) (is_any_resource a) c || is_path_into a c) e)

from_path : (a c : Basic) → is_path_into a c ≡ true → BasicBelow a c
from_path a c e = inr (or_right (is_never a) (by_class (is_any_resource a) (is_any_resource a) c || is_path_into a c) (or_right (by_class (is_any_resource a) (is_any_resource a) c) (is_path_into a c) e))

to_struct : (a : Basic) → is_any_resource a ≡ false → BasicBelow a b.AnyStruct
to_struct a e = from_class a b.AnyStruct (false_not (is_any_resource a) e)

-- what is below Never is Never
below_never : (a c : Basic) → BasicBelow a c → is_never c ≡ true → is_never a ≡ true
below_never a c h e = go (reason a c h)
  where
    go : Reason a c → is_never a ≡ true
    go (equal same) = subst (λ x. is_never x ≡ true) (sym same) e
    go (never n) = n
    go (by_its_class q) = elim (class_cases (is_any_resource a) (is_any_resource a) c q) [
      | inl r ↦ absurd (false≢true (subst (λ x. is_never x ≡ true) r.0 e))
      | inr r ↦ absurd (false≢true (subst (λ x. is_never x ≡ true) r.0 e))
    ]
    go (path q) = absurd (false≢true (subst (λ x. is_never x ≡ true) (path_cases a c q).0 e))

-- what is above Path is Path or AnyStruct
above_path : (a d : Basic) → is_any_resource a ≡ false → is_path_into a b.Path ≡ true → BasicBelow b.Path d → BasicBelow a d
above_path a d no_resource into h = go (reason b.Path d h)
  where
    go : Reason b.Path d → BasicBelow a d
    go (equal same) = subst (λ x. BasicBelow a x) same (from_path a b.Path into)
    go (never n) = absurd (false≢true n)
    go (by_its_class q) = elim (class_cases false false d q) [
      | inl r ↦ subst (λ x. BasicBelow a x) (sym r.0) (to_struct a no_resource)
      | inr r ↦ absurd (false≢true r.1)
    ]
    go (path q) = absurd (false≢true q)

basic_on : (a c d : Basic) → BasicBelow a c → BasicBelow c d → BasicBelow a d
basic_on a c d h g = go (reason a c h)
  where
    go : Reason a c → BasicBelow a d
    go (equal same) = subst (λ x. BasicBelow x d) (sym same) g
    go (never n) = from_never a d n
    go (by_its_class q) = elim (class_cases (is_any_resource a) (is_any_resource a) c q) [
      | inl r ↦ let last = struct_basic d (subst (λ x. BasicBelow x d) r.0 g) in subst (λ x. BasicBelow a x) (r.0 ∙ sym last) h
      | inr r ↦ let last = resource_basic d (subst (λ x. BasicBelow x d) r.0 g) in subst (λ x. BasicBelow a x) (r.0 ∙ sym last) h
    ]
    go (path q) =
        let cases = path_cases a c q in
        above_path a d cases.1 (subst (λ x. is_path_into a x ≡ true) cases.0 q) (subst (λ x. BasicBelow x d) cases.0 g)

module _ (k : List Declaration) where
  -- Classes of types along the order.

  resource_basic_up : (a c : Basic) → BasicBelow a c → is_any_resource a ≡ true → is_any_resource c ≡ true
  resource_basic_up a c h e =
      let same = any_resource_is a e in
      let last = resource_basic c (subst (λ x. BasicBelow x c) same h) in
      subst (λ x. is_any_resource x ≡ true) (sym last) refl

  -- what is below a basic type by its class, while it is a resource type
  class_up : (r p : Bool) (c : Basic) → by_class r p c ≡ true → r ≡ true → is_any_resource c ≡ true
  class_up r p c h e = elim (class_cases r p c h) [
    | inl q ↦ absurd (false≢true (sym q.1 ∙ e))
    | inr q ↦ subst (λ x. is_any_resource x ≡ true) (sym q.0) refl
  ]

  -- what is above a resource type is one
  pub resource_up : (t u : PureType) → Below k t u → resource k t ≡ true → resource k u ≡ true
  resource_up (basic a) (basic c) h e = resource_basic_up a c h e
  resource_up (basic a) u h e = absurd (false≢true (subst (λ x. is_never x ≡ true) (any_resource_is a e) h))
  resource_up (optional t) (optional u) h e = resource_up t u h e
  resource_up (optional t) (basic c) h e = class_up (resource k t) false c h e
  resource_up (optional t) u h e = absurd h
  resource_up (array t) (array u) h e = resource_up t u h e
  resource_up (array t) (basic c) h e = class_up (resource k t) (reaches_resource k t) c h e
  resource_up (array t) u h e = absurd h
  resource_up (dictionary p t) (dictionary q u) h e = resource_up t u h.1 e
  resource_up (dictionary p t) (basic c) h e = class_up (resource k t) (reaches_resource k t) c h e
  resource_up (dictionary p t) u h e = absurd h
  resource_up (intersection these) (intersection those) h e = sym h.0 ∙ e
  resource_up (intersection these) (basic c) h e = class_up (list_any (is_resource_id k) these) (list_any (is_resource_id k) these) c h e
  resource_up (intersection these) u h e = absurd h
  resource_up (declared id) (declared other) h e = subst (λ x. is_resource_id k x ≡ true) h e
  resource_up (declared id) (intersection ids) h e = sym h.0 ∙ e
  resource_up (declared id) (basic c) h e = class_up (is_resource_id k id) (is_resource_id k id) c h e
  resource_up (declared id) u h e = absurd h
  resource_up (reference x t) u h e = absurd (false≢true e)
  resource_up capability u h e = absurd (false≢true e)
  resource_up (capability_of t) u h e = absurd (false≢true e)

  -- what is below AnyStruct or AnyResource by its class has a resource type above it, if that has
  class_down : (r p : Bool) (c : Basic) → by_class r p c ≡ true → (is_never c || is_any_resource c) ≡ true → p ≡ true
  class_down r p c h e = elim (class_cases r p c h) [
    | inl q ↦ absurd (false≢true (subst (λ x. (is_never x || is_any_resource x) ≡ true) q.0 e))
    | inr q ↦ q.1
  ]

  reaches_basic : (a c : Basic) → BasicBelow a c → (is_never c || is_any_resource c) ≡ true → (is_never a || is_any_resource a) ≡ true
  reaches_basic a c h e = go (reason a c h)
    where
      go : Reason a c → (is_never a || is_any_resource a) ≡ true
      go (equal same) = subst (λ x. (is_never x || is_any_resource x) ≡ true) (sym same) e
      go (never n) = or_left (is_never a) (is_any_resource a) n
      go (by_its_class q) = or_right (is_never a) (is_any_resource a) (class_down (is_any_resource a) (is_any_resource a) c q e)
      go (path q) = absurd (false≢true (subst (λ x. (is_never x || is_any_resource x) ≡ true) (path_cases a c q).0 e))

  plain_down : (c : Basic) → by_class false false c ≡ true → (is_never c || is_any_resource c) ≡ true → ⊥
  plain_down c h e = false≢true (class_down false false c h e)

  -- what is below a type that has a resource type above it has one too
  reaches_down : (t u : PureType) → Below k t u → reaches_resource k u ≡ true → reaches_resource k t ≡ true
  reaches_down (basic a) (basic c) h e = reaches_basic a c h e
  reaches_down (basic a) u h e = or_left (is_never a) (is_any_resource a) h
  reaches_down (optional t) (optional u) h e = reaches_down t u h e
  reaches_down (optional t) (basic c) h e = absurd (false≢true (class_down (resource k t) false c h e))
  reaches_down (optional t) u h e = absurd h
  reaches_down (array t) (array u) h e = reaches_down t u h e
  reaches_down (array t) (basic c) h e = class_down (resource k t) (reaches_resource k t) c h e
  reaches_down (array t) u h e = absurd h
  reaches_down (dictionary p t) (dictionary q u) h e = reaches_down t u h.1 e
  reaches_down (dictionary p t) (basic c) h e = class_down (resource k t) (reaches_resource k t) c h e
  reaches_down (dictionary p t) u h e = absurd h
  reaches_down (intersection these) (intersection those) h e = h.0 ∙ e
  reaches_down (intersection these) (basic c) h e = class_down (list_any (is_resource_id k) these) (list_any (is_resource_id k) these) c h e
  reaches_down (intersection these) u h e = absurd h
  reaches_down (declared id) (declared other) h e = subst (λ x. is_resource_id k x ≡ true) (sym h) e
  reaches_down (declared id) (intersection ids) h e = h.0 ∙ e
  reaches_down (declared id) (basic c) h e = class_down (is_resource_id k id) (is_resource_id k id) c h e
  reaches_down (declared id) u h e = absurd h
  reaches_down (reference x t) (reference y u) h e = absurd (false≢true e)
  reaches_down (reference x t) (basic c) h e = absurd (plain_down c h e)
  reaches_down (reference x t) u h e = absurd h
  reaches_down capability capability h e = absurd (false≢true e)
  reaches_down capability (basic c) h e = absurd (plain_down c h e)
  reaches_down capability u h e = absurd h
  reaches_down (capability_of t) (capability_of u) h e = absurd (false≢true e)
  reaches_down (capability_of t) capability h e = absurd (false≢true e)
  reaches_down (capability_of t) (basic c) h e = absurd (plain_down c h e)
  reaches_down (capability_of t) u h e = absurd h

  resource_reaches : (t : PureType) → resource k t ≡ true → reaches_resource k t ≡ true
  resource_reaches (basic a) e = or_right (is_never a) (is_any_resource a) e
  resource_reaches (optional t) e = resource_reaches t e
  resource_reaches (array t) e = resource_reaches t e
  resource_reaches (dictionary p t) e = resource_reaches t e
  resource_reaches (intersection ids) e = e
  resource_reaches (declared id) e = e
  resource_reaches (reference x t) e = e
  resource_reaches capability e = e
  resource_reaches (capability_of t) e = e

  below_struct : (t : PureType) → resource k t ≡ false → Below k t (basic b.AnyStruct)
  below_struct (basic a) e = to_struct a e
  below_struct (optional t) e = false_not (resource k t) e
  below_struct (array t) e = false_not (resource k t) e
  below_struct (dictionary p t) e = false_not (resource k t) e
  below_struct (intersection ids) e = false_not (list_any (is_resource_id k) ids) e
  below_struct (declared id) e = false_not (is_resource_id k id) e
  below_struct (reference x t) e = refl
  below_struct capability e = refl
  below_struct (capability_of t) e = refl

  below_resource : (t : PureType) → resource k t ≡ true → is_optional t ≡ false → Below k t (basic b.AnyResource)
  below_resource (basic a) e o = inl (any_resource_is a e)
  below_resource (optional t) e o = absurd (false≢true (sym o))
  below_resource (array t) e o = resource_reaches t e
  below_resource (dictionary p t) e o = resource_reaches t e
  below_resource (intersection ids) e o = e
  below_resource (declared id) e o = e
  below_resource (reference x t) e o = absurd (false≢true e)
  below_resource capability e o = absurd (false≢true e)
  below_resource (capability_of t) e o = absurd (false≢true e)

  -- Interfaces.

  itself_has : (ids : List TypeId) (id : TypeId) → Contains ids id → has_interface k ids id ≡ true
  itself_has ids id c = passes_some (λ i. same_id i id || has (interfaces_of k i) id) ids id c (or_left (same_id id id) (has (interfaces_of k id) id) ((ids_tell id id).1 refl))

  -- Reflexivity.

  pub below_itself : (t : PureType) → Below k t t
  below_itself (basic a) = inl refl
  below_itself (optional t) = below_itself t
  below_itself (array t) = below_itself t
  below_itself (dictionary p t) = (below_itself p, below_itself t)
  below_itself (intersection ids) = (refl, passes_each (has_interface k ids) ids (λ id c. itself_has ids id c))
  below_itself (declared id) = refl
  below_itself (reference x t) = (covers_itself (sets x), below_itself t)
  below_itself capability = tt
  below_itself (capability_of t) = below_itself t

  module _ (closed : IsClosed k) where
    -- an interface of an interface that is had
    had : (i j m : TypeId) → (same_id i j || has (interfaces_of k i) j) ≡ true → (same_id j m || has (interfaces_of k j) m) ≡ true → (same_id i m || has (interfaces_of k i) m) ≡ true
    had i j m first second = elim (or_cases (same_id j m) (has (interfaces_of k j) m) second) [
      | inl p ↦ subst (λ x. (same_id i x || has (interfaces_of k i) x) ≡ true) ((ids_tell j m).0 p) first
      | inr p ↦ elim (or_cases (same_id i j) (has (interfaces_of k i) j) first) [
        | inl q ↦ or_right (same_id i m) (has (interfaces_of k i) m) (subst (λ x. has (interfaces_of k x) m ≡ true) (sym ((ids_tell i j).0 q)) p)
        | inr q ↦ or_right (same_id i m) (has (interfaces_of k i) m) (closed i j m q p)
      ]
    ]

    interface_on : (these those : List TypeId) (m : TypeId) → list_all (has_interface k these) those ≡ true → has_interface k those m ≡ true → has_interface k these m ≡ true
    interface_on these those m each one =
        let found = some_passes (λ j. same_id j m || has (interfaces_of k j) m) those one in
        let over = some_passes (λ i. same_id i found.0 || has (interfaces_of k i) found.0) these (each_passes (has_interface k these) those each found.0 found.1) in
        passes_some (λ i. same_id i m || has (interfaces_of k i) m) these over.0 over.1 (had over.0 found.0 m over.2 found.2)

    narrower_on : (these those last : List TypeId) → Narrower k these those → Narrower k those last → Narrower k these last
    narrower_on these those last h g =
        (h.0 ∙ g.0, passes_each (has_interface k these) last (λ m c. interface_on these those m h.1 (each_passes (has_interface k those) last g.1 m c)))

    conforms_on : (id : TypeId) (those last : List TypeId) → Conforms k id those → Narrower k those last → Conforms k id last
    conforms_on id those last h g =
        (h.0 ∙ g.0, passes_each (has (interfaces_of k id)) last (λ m c. step m (each_passes (has_interface k those) last g.1 m c)))
      where
        step : (m : TypeId) → has_interface k those m ≡ true → has (interfaces_of k id) m ≡ true
        step m one =
            let found = some_passes (λ j. same_id j m || has (interfaces_of k j) m) those one in
            let own = each_passes (has (interfaces_of k id)) those h.1 found.0 found.1 in
            elim (or_cases (same_id found.0 m) (has (interfaces_of k found.0) m) found.2) [
              | inl p ↦ subst (λ x. has (interfaces_of k id) x ≡ true) ((ids_tell found.0 m).0 p) own
              | inr p ↦ closed id found.0 m own p
            ]

    -- Transitivity.

    -- above what is above by class
    tops : (t : PureType) (r p : Bool) (c : Basic) (w : PureType) → by_class r p c ≡ true → Below k t (basic c) → Below k (basic c) w → Below k t w
    tops t r p c w e h g = elim (class_cases r p c e) [
      | inl q ↦ let last = struct_top k w (subst (λ x. Below k (basic x) w) q.0 g) in subst (λ x. Below k t x) (ap basic q.0 ∙ sym last) h
      | inr q ↦ let last = resource_top k w (subst (λ x. Below k (basic x) w) q.0 g) in subst (λ x. Below k t x) (ap basic q.0 ∙ sym last) h
    ]

    -- a container of what is below is below what a container is below by its class
    class_on : (t u : PureType) (c : Basic) → Below k t u → by_class (resource k u) (reaches_resource k u) c ≡ true → by_class (resource k t) (reaches_resource k t) c ≡ true
    class_on t u c h e = elim (class_cases (resource k u) (reaches_resource k u) c e) [
      | inl q ↦ subst (λ x. by_class (resource k t) (reaches_resource k t) x ≡ true) (sym q.0) (false_not (resource k t) (back (resource k t) (resource k u) (resource_up t u h) q.1))
      | inr q ↦ subst (λ x. by_class (resource k t) (reaches_resource k t) x ≡ true) (sym q.0) (reaches_down t u h q.1)
    ]

    optional_on : (t u : PureType) (c : Basic) → Below k t u → by_class (resource k u) false c ≡ true → by_class (resource k t) false c ≡ true
    optional_on t u c h e = elim (class_cases (resource k u) false c e) [
      | inl q ↦ subst (λ x. by_class (resource k t) false x ≡ true) (sym q.0) (false_not (resource k t) (back (resource k t) (resource k u) (resource_up t u h) q.1))
      | inr q ↦ absurd (false≢true q.1)
    ]

    below_on : (t u w : PureType) → Below k t u → Below k u w → Below k t w
    below_on (basic a) (basic c) (basic d) h g = basic_on a c d h g
    below_on (basic a) (basic c) w h g = never_below k a (below_never a c h g) w
    below_on (basic a) u w h g = never_below k a h w
    below_on (optional t) (optional u) (optional w) h g = below_on t u w h g
    below_on (optional t) (optional u) (basic c) h g = optional_on t u c h g
    below_on (optional t) (optional u) w h g = absurd g
    below_on (optional t) (basic c) w h g = tops (optional t) (resource k t) false c w h h g
    below_on (optional t) u w h g = absurd h
    below_on (array t) (array u) (array w) h g = below_on t u w h g
    below_on (array t) (array u) (basic c) h g = class_on t u c h g
    below_on (array t) (array u) w h g = absurd g
    below_on (array t) (basic c) w h g = tops (array t) (resource k t) (reaches_resource k t) c w h h g
    below_on (array t) u w h g = absurd h
    below_on (dictionary p t) (dictionary q u) (dictionary r w) h g = (below_on p q r h.0 g.0, below_on t u w h.1 g.1)
    below_on (dictionary p t) (dictionary q u) (basic c) h g = class_on t u c h.1 g
    below_on (dictionary p t) (dictionary q u) w h g = absurd g
    below_on (dictionary p t) (basic c) w h g = tops (dictionary p t) (resource k t) (reaches_resource k t) c w h h g
    below_on (dictionary p t) u w h g = absurd h
    below_on (intersection these) (intersection those) (intersection last) h g = narrower_on these those last h g
    below_on (intersection these) (intersection those) (basic c) h g = subst (λ x. by_class x x c ≡ true) (sym h.0) g
    below_on (intersection these) (intersection those) w h g = absurd g
    below_on (intersection these) (basic c) w h g = tops (intersection these) (list_any (is_resource_id k) these) (list_any (is_resource_id k) these) c w h h g
    below_on (intersection these) u w h g = absurd h
    below_on (declared id) (declared other) w h g = subst (λ x. Below k (declared x) w) (sym h) g
    below_on (declared id) (intersection those) (intersection last) h g = conforms_on id those last h g
    below_on (declared id) (intersection those) (basic c) h g = subst (λ x. by_class x x c ≡ true) (sym h.0) g
    below_on (declared id) (intersection those) w h g = absurd g
    below_on (declared id) (basic c) w h g = tops (declared id) (is_resource_id k id) (is_resource_id k id) c w h h g
    below_on (declared id) u w h g = absurd h
    below_on (reference x t) (reference y u) (reference z w) h g = (covers_on (sets x) (sets y) (sets z) h.0 g.0, below_on t u w h.1 g.1)
    below_on (reference x t) (reference y u) (basic c) h g = g
    below_on (reference x t) (reference y u) w h g = absurd g
    below_on (reference x t) (basic c) w h g = tops (reference x t) false false c w h h g
    below_on (reference x t) u w h g = absurd h
    below_on capability capability w h g = g
    below_on capability (basic c) w h g = tops capability false false c w h h g
    below_on capability u w h g = absurd h
    below_on (capability_of t) (capability_of u) (capability_of w) h g = below_on t u w h g
    below_on (capability_of t) (capability_of u) capability h g = tt
    below_on (capability_of t) (capability_of u) (basic c) h g = g
    below_on (capability_of t) (capability_of u) w h g = absurd g
    below_on (capability_of t) capability capability h g = tt
    below_on (capability_of t) capability (basic c) h g = g
    below_on (capability_of t) capability w h g = absurd g
    below_on (capability_of t) (basic c) w h g = tops (capability_of t) false false c w h h g
    below_on (capability_of t) u w h g = absurd h

    -- The least relation.

    conforms_to : (id : TypeId) (ids : List TypeId) → ((i : TypeId) → Contains ids i → Contains (interfaces_of k id) i) → list_all (has (interfaces_of k id)) ids ≡ true
    conforms_to id ids h = passes_each (has (interfaces_of k id)) ids (λ i c. to_has (interfaces_of k id) i (h i c))

    has_interface_to : (ids : List TypeId) (id : TypeId) → HasInterface k ids id → has_interface k ids id ≡ true
    has_interface_to ids id h = passes_some (λ i. same_id i id || has (interfaces_of k i) id) ids h.0 h.1 (elim h.2 [
      | inl same ↦ or_left (same_id h.0 id) (has (interfaces_of k h.0) id) ((ids_tell h.0 id).1 same)
      | inr c ↦ or_right (same_id h.0 id) (has (interfaces_of k h.0) id) (to_has (interfaces_of k h.0) id c)
    ])

    pub from_sub : {t u : PureType} → Sub k t u → Below k t u
    from_sub {t = t} s.same = below_itself t
    from_sub {t = t} {u = w} (s.through {u = u} h g) = below_on t u w (from_sub h) (from_sub g)
    from_sub {u = u} s.never = never_below k b.Never refl u
    from_sub (s.optionals h) = from_sub h
    from_sub (s.arrays h) = from_sub h
    from_sub (s.dictionaries h g) = (from_sub h, from_sub g)
    from_sub (s.conforms {id = id} {ids = ids} class h) = (class, conforms_to id ids h)
    from_sub (s.narrower {these = these} {those = those} class h) = (class, passes_each (has_interface k these) those (λ i c. has_interface_to these i (h i c)))
    from_sub {t = t} (s.any_struct e) = below_struct t e
    from_sub {t = t} (s.any_resource e o) = below_resource t e o
    from_sub (s.references grants h) = (grants, from_sub h)
    from_sub s.capability_untyped = tt
    from_sub (s.capabilities h) = from_sub h
    from_sub s.storage_path = inr refl
    from_sub s.public_path = inr refl

  -- a resource type above what reaches one
  reached : (t : PureType) → reaches_resource k t ≡ true → (w : PureType) × Sub k t w × (resource k w ≡ true)
  reached (basic a) e = elim (or_cases (is_never a) (is_any_resource a) e) [
    | inl n ↦ (basic b.AnyResource, subst (λ x. Sub k (basic x) (basic b.AnyResource)) (sym (never_is a n)) s.never, refl)
    | inr r ↦ (basic a, s.same, r)
  ]
  reached (optional t) e = let w = reached t e in (optional w.0, s.optionals w.1, w.2)
  reached (array t) e = let w = reached t e in (array w.0, s.arrays w.1, w.2)
  reached (dictionary p t) e = let w = reached t e in (dictionary p w.0, s.dictionaries s.same w.1, w.2)
  reached (intersection ids) e = (intersection ids, s.same, e)
  reached (declared id) e = (declared id, s.same, e)
  reached (reference x t) e = absurd (false≢true e)
  reached capability e = absurd (false≢true e)
  reached (capability_of t) e = absurd (false≢true e)

  -- a type that is below a basic one by its class
  by_class_sub : (t : PureType) (r p : Bool) (c : Basic) → r ≡ resource k t → (p ≡ true → Sub k t (basic b.AnyResource)) → by_class r p c ≡ true → Sub k t (basic c)
  by_class_sub t r p c class above e = elim (class_cases r p c e) [
    | inl q ↦ subst (λ x. Sub k t (basic x)) (sym q.0) (s.any_struct (sym class ∙ q.1))
    | inr q ↦ subst (λ x. Sub k t (basic x)) (sym q.0) (above q.1)
  ]

  plain_sub : (t : PureType) (r : Bool) (c : Basic) → r ≡ resource k t → is_optional t ≡ false → by_class r r c ≡ true → Sub k t (basic c)
  plain_sub t r c class o e = by_class_sub t r r c class (λ yes. s.any_resource (sym class ∙ yes) o) e

  path_sub : (a c : Basic) → is_path_into a c ≡ true → Sub k (basic a) (basic c)
  path_sub b.StoragePath b.Path e = s.storage_path
  path_sub b.PublicPath b.Path e = s.public_path
  path_sub _ _ e = absurd (false≢true e)

  never_sub : (a : Basic) (w : PureType) → is_never a ≡ true → Sub k (basic a) w
  never_sub a w n = subst (λ x. Sub k (basic x) w) (sym (never_is a n)) s.never

  basic_sub : (a c : Basic) → BasicBelow a c → Sub k (basic a) (basic c)
  basic_sub a c h = go (reason a c h)
    where
      go : Reason a c → Sub k (basic a) (basic c)
      go (equal same) = subst (λ x. Sub k (basic a) (basic x)) same s.same
      go (never n) = never_sub a (basic c) n
      go (by_its_class q) = plain_sub (basic a) (is_any_resource a) c refl refl q
      go (path q) = path_sub a c q

  array_sub : (t : PureType) (c : Basic) → by_class (resource k t) (reaches_resource k t) c ≡ true → Sub k (array t) (basic c)
  array_sub t c e = by_class_sub (array t) (resource k t) (reaches_resource k t) c refl (λ yes. let w = reached t yes in s.through (s.arrays w.1) (s.any_resource w.2 refl)) e

  dictionary_sub : (p t : PureType) (c : Basic) → by_class (resource k t) (reaches_resource k t) c ≡ true → Sub k (dictionary p t) (basic c)
  dictionary_sub p t c e = by_class_sub (dictionary p t) (resource k t) (reaches_resource k t) c refl (λ yes. let w = reached t yes in s.through (s.dictionaries s.same w.1) (s.any_resource w.2 refl)) e

  to_has_interface : (ids : List TypeId) (id : TypeId) → has_interface k ids id ≡ true → HasInterface k ids id
  to_has_interface ids id e =
      let found = some_passes (λ i. same_id i id || has (interfaces_of k i) id) ids e in (
        found.0,
        found.1,
        elim (or_cases (same_id found.0 id) (has (interfaces_of k found.0) id) found.2) [
          | inl same ↦ inl ((ids_tell found.0 id).0 same)
          | inr there ↦ inr (has_to (interfaces_of k found.0) id there)
        ],
      )

  pub to_sub : (t u : PureType) → Below k t u → Sub k t u
  to_sub (basic a) (basic c) h = basic_sub a c h
  to_sub (basic a) u h = never_sub a u h
  to_sub (optional t) (optional u) h = s.optionals (to_sub t u h)
  to_sub (optional t) (basic c) h = by_class_sub (optional t) (resource k t) false c refl (λ no_way. absurd (false≢true no_way)) h
  to_sub (optional t) u h = absurd h
  to_sub (array t) (array u) h = s.arrays (to_sub t u h)
  to_sub (array t) (basic c) h = array_sub t c h
  to_sub (array t) u h = absurd h
  to_sub (dictionary p t) (dictionary q u) h = s.dictionaries (to_sub p q h.0) (to_sub t u h.1)
  to_sub (dictionary p t) (basic c) h = dictionary_sub p t c h
  to_sub (dictionary p t) u h = absurd h
  to_sub (intersection these) (intersection those) h = s.narrower h.0 (λ i c. to_has_interface these i (each_passes (has_interface k these) those h.1 i c))
  to_sub (intersection these) (basic c) h = plain_sub (intersection these) (list_any (is_resource_id k) these) c refl refl h
  to_sub (intersection these) u h = absurd h
  to_sub (declared id) (declared other) h = subst (λ x. Sub k (declared id) (declared x)) h s.same
  to_sub (declared id) (intersection ids) h = s.conforms h.0 (λ i c. has_to (interfaces_of k id) i (each_passes (has (interfaces_of k id)) ids h.1 i c))
  to_sub (declared id) (basic c) h = plain_sub (declared id) (is_resource_id k id) c refl refl h
  to_sub (declared id) u h = absurd h
  to_sub (reference x t) (reference y u) h = s.references h.0 (to_sub t u h.1)
  to_sub (reference x t) (basic c) h = plain_sub (reference x t) false c refl refl h
  to_sub (reference x t) u h = absurd h
  to_sub capability capability h = s.same
  to_sub capability (basic c) h = plain_sub capability false c refl refl h
  to_sub capability u h = absurd h
  to_sub (capability_of t) (capability_of u) h = s.capabilities (to_sub t u h)
  to_sub (capability_of t) capability h = s.capability_untyped
  to_sub (capability_of t) (basic c) h = plain_sub (capability_of t) false c refl refl h
  to_sub (capability_of t) u h = absurd h
