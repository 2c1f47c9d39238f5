-- What an image is, by none of its steps.
use Rattle.std.proofs.Common.{◌≡◌, Bool, true, false, cond, ◌==◌, Some, None, List, [], ◌∷◌, ◌++◌, length, filter, fold, Contains, refl, ap, sym, ◌∙◌, subst, inl, inr}
use Rattle.std.proofs.lemmas.Bool.{false≢true}
use Rattle.std.proofs.lemmas.List.Elements.{Contains-append_cases}
use Rattle.std.specs.List.{list_all, flat_map}
use Rattle.cad_syntax.specs.TypeIds.{has}
use Rattle.cad_syntax.specs.declared.type_id.TypeId.{TypeId}
use Rattle.cad_syntax.specs.declared.types.Authorization.{Authorization}
use Rattle.cad_syntax.specs.declared.types.Authorization.TheVariants.{Unauthorized, All, Any}
use Rattle.cad_syntax.proofs.Members.{contains_nothing, contains_first, contains_later, map_contains}
use Rattle.cad_auth.specs.declared.mapping.Mapping.{Mapping}
use Rattle.cad_auth.specs.Grants.{single, sets, Includes}
use Rattle.cad_auth.specs.Images.{targets_of, with_once, replaced, targets, members, is_named, among, conjunction, read, image, AreOnce, IsImage}
use Rattle.cad_auth.proofs.Covers.{to_has, only_one, only_first}
use Rattle.cad_auth.proofs.Stronger.{none_some, filter_contains, image_sets}

once_push : (xs : List TypeId) (y : TypeId) → AreOnce xs → (Contains xs y → ⊥) → AreOnce (xs ++ y ∷ [])
once_push [] y d n = (λ c. contains_nothing y c, tt)
once_push (x ∷ xs) y d n = (
  λ c. elim (Contains-append_cases xs (y ∷ []) x c) [
    | inl there ↦ d.0 there
    | inr last ↦ n (subst (λ z. Contains (x ∷ xs) z) (sym (only_one y x last)) (contains_first x xs))
  ],
  once_push xs y d.1 (λ c. n (contains_later x xs y c)),
)

once_more : (acc : List TypeId) (x : TypeId) (b : Bool) → has acc x ≡ b → AreOnce acc → AreOnce (cond b acc (acc ++ x ∷ []))
once_more acc x true e d = d
once_more acc x false e d = once_push acc x d (λ c. false≢true (sym e ∙ to_has acc x c))

once_all : (xs acc : List TypeId) → AreOnce acc → AreOnce (fold with_once acc xs)
once_all [] acc d = d
once_all (x ∷ xs) acc d = once_all xs (with_once acc x) (once_more acc x (has acc x) refl d)

once_step : (test : TypeId → Bool) (x : TypeId) (xs : List TypeId) (b : Bool) → (Contains xs x → ⊥) → AreOnce (filter test xs) → AreOnce (cond b (x ∷ filter test xs) (filter test xs))
once_step test x xs true n d = (λ c. n (filter_contains test xs x c).0, d)
once_step test x xs false n d = d

once_filter : (test : TypeId → Bool) (xs : List TypeId) → AreOnce xs → AreOnce (filter test xs)
once_filter test [] d = tt
once_filter test (x ∷ xs) d = once_step test x xs (test x) d.0 (once_filter test xs d.1)

members_conjunction : (l : List TypeId) → members (conjunction l) ≡ l
members_conjunction [] = refl
members_conjunction (e ∷ es) = refl

-- what is read has the members that were chosen
read_members : (these : List (List TypeId)) (order : List TypeId) (x : Authorization) → read these order ≡ Some x → members x ≡ among these order
read_members these order x e = go (length these == 1) (list_all (λ set. length set == 1) these) e
  where
    go : (a b : Bool) → cond a (Some (conjunction (among these order))) (cond b (Some (Any (among these order))) None) ≡ Some x → members x ≡ among these order
    go true b e = let same : conjunction (among these order) ≡ x = cc in subst (λ z. members z ≡ among these order) same (members_conjunction (among these order))
    go false true e = let same : Any (among these order) ≡ x = cc in subst (λ z. members z ≡ among these order) same refl
    go false false e = absurd (none_some e)

-- no set of an authorization includes another
sets_apart : (x : Authorization) (set other : List TypeId) → Contains (sets x) set → Contains (sets x) other → Includes set other → set ≡ other
sets_apart Unauthorized set other c d h = sym (only_one [] set c) ∙ only_one [] other d
sets_apart (All l) set other c d h = sym (only_one l set c) ∙ only_one l other d
sets_apart (Any []) set other c d h = sym (only_one [] set c) ∙ only_one [] other d
sets_apart (Any (first ∷ others)) set other c d h =
    let one = map_contains single (first ∷ others) set c in
    let two = map_contains single (first ∷ others) other d in
    let inside = subst (λ s. Contains s two.0) (sym one.2) (h two.0 (subst (λ s. Contains s two.0) two.2 (contains_first two.0 []))) in
    sym one.2 ∙ ap single (only_first one.0 two.0 inside) ∙ two.2

pub is_image : (m : Mapping) (a x : Authorization) → image m a ≡ Some x → IsImage m a x
is_image m a x e =
    let of_sets = image_sets m a x e in
    let of_members = read_members (targets m a) (replaced m (members a)) x e in
    record {
      covers = of_sets.0;
      covered = of_sets.1;
      apart = sets_apart x;
      once = subst AreOnce (sym of_members) (once_filter (is_named (targets m a)) (replaced m (members a)) (once_all (flat_map (targets_of m) (members a)) [] tt));
      ordered = (is_named (targets m a), of_members);
    }
