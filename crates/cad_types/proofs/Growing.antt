-- The order of types that name declared types stays as declarations are added.
use Rattle.std.proofs.Common.{◌≡◌, Bool, true, false, ◌||◌, ◌&&◌, List, [], ◌∷◌, refl, ap, ◌∙◌}
use Rattle.std.specs.Prelude.{Option, Some, None}
use Rattle.std.specs.List.{list_any, list_all}
use Rattle.std.specs.Option.{is_some}
use Rattle.cad_syntax.specs.TypeIds.{same_id, has}
use Rattle.cad_syntax.specs.Types.{PureType, basic, optional, array, dictionary, intersection, declared, reference, capability, capability_of}
use Rattle.cad_syntax.specs.declared.type_id.TypeId.{TypeId}
use Rattle.cad_syntax.specs.declared.types.Basic.{Basic}
use Rattle.cad_syntax.proofs.Members.{and_both}
use Rattle.cad_auth.specs.Tests.{grants}
use Rattle.cad_types.specs.Declarations.{Declaration, found, is_declared, interfaces_in, interfaces_of, resource_in, is_resource_id, resource}
use Rattle.cad_types.specs.Below.{reaches_resource, by_class, has_interface, same_truth, below}
use Rattle.cad_types.specs.Growth.{Grows, is_named}
use Rattle.cad_types.specs.Laws.{ResourcesStay, OrderStays}

both_and : {a b c d : Bool} → a ≡ c → b ≡ d → (a && b) ≡ (c && d)
both_and {b = b} {c = c} e f = ap (λ x. x && b) e ∙ ap (λ y. c && y) f

both_same : {a b c d : Bool} → a ≡ c → b ≡ d → same_truth a b ≡ same_truth c d
both_same {b = b} {c = c} e f = ap (λ x. same_truth x b) e ∙ ap (λ y. same_truth c y) f

both_class : {a b c d : Bool} (u : Basic) → a ≡ c → b ≡ d → by_class a b u ≡ by_class c d u
both_class {b = b} {c = c} u e f = ap (λ x. by_class x b u) e ∙ ap (λ y. by_class c y u) f

module _ (k more : List Declaration) (grows : Grows k more) where
  keeps : (id : TypeId) → is_declared k id ≡ true → found more id ≡ found k id
  keeps id e = go (found k id) refl e
    where
      go : (o : Option Declaration) → found k id ≡ o → is_some o ≡ true → found more id ≡ o
      go None q e = cc
      go (Some d) q e = grows id d q

  id_stays : (id : TypeId) → is_declared k id ≡ true → is_resource_id more id ≡ is_resource_id k id
  id_stays id d = ap resource_in (keeps id d)

  interfaces_stay : (id : TypeId) → is_declared k id ≡ true → interfaces_of more id ≡ interfaces_of k id
  interfaces_stay id d = ap interfaces_in (keeps id d)

  some_stays : (ids : List TypeId) → list_all (is_declared k) ids ≡ true → list_any (is_resource_id more) ids ≡ list_any (is_resource_id k) ids
  some_stays [] d = refl
  some_stays (i ∷ is) d = let a = and_both (is_declared k i) (list_all (is_declared k) is) d in
      ap (λ x. x || list_any (is_resource_id more) is) (id_stays i a.0) ∙ ap (λ y. is_resource_id k i || y) (some_stays is a.1)

  one_has : (these : List TypeId) (id : TypeId) → list_all (is_declared k) these ≡ true → has_interface more these id ≡ has_interface k these id
  one_has [] id d = refl
  one_has (i ∷ is) id d = let a = and_both (is_declared k i) (list_all (is_declared k) is) d in
      ap (λ (x : List TypeId). (same_id i id || has x id) || has_interface more is id) (interfaces_stay i a.0) ∙ ap (λ y. (same_id i id || has (interfaces_of k i) id) || y) (one_has is id a.1)

  all_has : (these those : List TypeId) → list_all (is_declared k) these ≡ true → list_all (has_interface more these) those ≡ list_all (has_interface k these) those
  all_has these [] d = refl
  all_has these (i ∷ is) d = both_and (one_has these i d) (all_has these is d)

  resource_stays : (t : PureType) → is_named k t ≡ true → resource more t ≡ resource k t
  resource_stays (basic t) d = refl
  resource_stays (optional t) d = resource_stays t d
  resource_stays (array t) d = resource_stays t d
  resource_stays (dictionary p t) d = resource_stays t (and_both (is_named k p) (is_named k t) d).1
  resource_stays (intersection ids) d = some_stays ids d
  resource_stays (declared id) d = id_stays id d
  resource_stays (reference a t) d = refl
  resource_stays capability d = refl
  resource_stays (capability_of t) d = refl

  reaches_stays : (t : PureType) → is_named k t ≡ true → reaches_resource more t ≡ reaches_resource k t
  reaches_stays (basic t) d = refl
  reaches_stays (optional t) d = reaches_stays t d
  reaches_stays (array t) d = reaches_stays t d
  reaches_stays (dictionary p t) d = reaches_stays t (and_both (is_named k p) (is_named k t) d).1
  reaches_stays (intersection ids) d = some_stays ids d
  reaches_stays (declared id) d = id_stays id d
  reaches_stays (reference a t) d = refl
  reaches_stays capability d = refl
  reaches_stays (capability_of t) d = refl

  stays : (t u : PureType) → is_named k t ≡ true → is_named k u ≡ true → below more t u ≡ below k t u
  stays (basic t) (basic u) d e = refl
  stays (basic t) u d e = refl
  stays (optional t) (optional u) d e = stays t u d e
  stays (optional t) (basic u) d e = ap (λ (x : Bool). by_class x false u) (resource_stays t d)
  stays (optional t) u d e = refl
  stays (array t) (array u) d e = stays t u d e
  stays (array t) (basic u) d e = both_class u (resource_stays t d) (reaches_stays t d)
  stays (array t) u d e = refl
  stays (dictionary p t) (dictionary q u) d e = let a = and_both (is_named k p) (is_named k t) d in let c = and_both (is_named k q) (is_named k u) e in both_and (stays p q a.0 c.0) (stays t u a.1 c.1)
  stays (dictionary p t) (basic u) d e = let a = and_both (is_named k p) (is_named k t) d in both_class u (resource_stays t a.1) (reaches_stays t a.1)
  stays (dictionary p t) u d e = refl
  stays (intersection xs) (intersection ys) d e = both_and (both_same (some_stays xs d) (some_stays ys e)) (all_has xs ys d)
  stays (intersection xs) (basic u) d e = both_class u (some_stays xs d) (some_stays xs d)
  stays (intersection xs) u d e = refl
  stays (declared id) (declared other) d e = refl
  stays (declared id) (intersection ids) d e = both_and (both_same (id_stays id d) (some_stays ids e)) (ap (λ (x : List TypeId). list_all (has x) ids) (interfaces_stay id d))
  stays (declared id) (basic u) d e = both_class u (id_stays id d) (id_stays id d)
  stays (declared id) u d e = refl
  stays (reference x t) (reference y u) d e = ap (λ (z : Bool). grants x y && z) (stays t u d e)
  stays (reference x t) (basic u) d e = refl
  stays (reference x t) u d e = refl
  stays capability capability d e = refl
  stays capability (basic u) d e = refl
  stays capability u d e = refl
  stays (capability_of t) (capability_of u) d e = stays t u d e
  stays (capability_of t) capability d e = refl
  stays (capability_of t) (basic u) d e = refl
  stays (capability_of t) u d e = refl

pub resources_stay : ResourcesStay
resources_stay = resource_stays

pub order_stays : OrderStays
order_stays = stays
