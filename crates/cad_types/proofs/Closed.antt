-- The test of closed lists of interfaces.
use Rattle.std.proofs.Common.{◌≡◌, Bool, true, false, cond, ◌↔◌, IsTrue, Option, Some, None, List, [], ◌∷◌, Contains, refl, sym, ◌∙◌, subst, ◌⊎◌, inl, inr}
use Rattle.std.proofs.lemmas.Bool.{false≢true}
use Rattle.std.specs.List.{list_all}
use Rattle.cad_syntax.specs.TypeIds.{same_id, has}
use Rattle.cad_syntax.specs.declared.type_id.TypeId.{TypeId}
use Rattle.cad_syntax.proofs.Members.{contains_first, contains_later, each_passes, passes_each}
use Rattle.cad_syntax.proofs.Same.{ids_tell}
use Rattle.cad_auth.proofs.Covers.{has_to, to_has}
use Rattle.cad_types.specs.Declarations.{Declaration, found, interfaces_in, interfaces_of, IsClosed}
use Rattle.cad_types.specs.Code.Declarations.{closed_at, all_closed}

-- what is found is in the list, with that identifier
found_there : (k : List Declaration) (id : TypeId) → ((d : Declaration) × Contains k d × (d.id ≡ id)) ⊎ (found k id ≡ None)
found_there [] id = inr refl
found_there (d ∷ ds) id = go (same_id d.id id) refl (found_there ds id)
  where
    go : (b : Bool) → same_id d.id id ≡ b → ((x : Declaration) × Contains ds x × (x.id ≡ id)) ⊎ (found ds id ≡ None) → ((x : Declaration) × Contains (d ∷ ds) x × (x.id ≡ id)) ⊎ (cond b (Some d) (found ds id) ≡ None)
    go true e rest = inl (d, contains_first d ds, (ids_tell d.id id).0 e)
    go false e (inl x) = inl (x.0, contains_later d ds x.0 x.1, x.2)
    go false e (inr none) = inr none

closed_from : (k : List Declaration) → all_closed k ≡ true → IsClosed k
closed_from k all i j m first second = elim (found_there k i) [
  | inl there ↦
      let here : closed_at k i ≡ true = subst (λ (x : TypeId). closed_at k x ≡ true) there.2 (each_passes (λ (d : Declaration). closed_at k d.id) k all there.0 there.1) in
      let of_j = each_passes (λ (x : TypeId). list_all (has (interfaces_of k i)) (interfaces_of k x)) (interfaces_of k i) here j (has_to (interfaces_of k i) j first) in
      each_passes (has (interfaces_of k i)) (interfaces_of k j) of_j m (has_to (interfaces_of k j) m second)
  | inr none ↦ absurd (false≢true (subst (λ (o : Option Declaration). has (interfaces_in o) j ≡ true) none first))
]

from_closed : (k : List Declaration) → IsClosed k → all_closed k ≡ true
from_closed k closed = passes_each (λ (d : Declaration). closed_at k d.id) k (λ d c.
    passes_each (λ (j : TypeId). list_all (has (interfaces_of k d.id)) (interfaces_of k j)) (interfaces_of k d.id) (λ j cj.
    passes_each (has (interfaces_of k d.id)) (interfaces_of k j) (λ m cm.
    closed d.id j m (to_has (interfaces_of k d.id) j cj) (to_has (interfaces_of k j) m cm))))

pub closed_tells : (k : List Declaration) (r : Bool) → r ≡ all_closed k → (IsTrue r ↔ IsClosed k)
closed_tells k r e = (λ yes. closed_from k (sym e ∙ yes), λ closed. e ∙ from_closed k closed)
