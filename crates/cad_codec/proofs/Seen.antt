-- A set of byte strings holds those that were added to it.
use Rattle.std.proofs.Common.{◌≡◌, ℕ, zero, suc, ◌+◌, ◌<◌, ◌≤◌, Bool, true, false, cond, not, ◌&&◌, ◌||◌, List, [], ◌∷◌, ◌++◌, length, map, take, drop, Option, Some, None, refl, sym, ap, ◌∙◌, subst, arith}
use Rattle.std.specs.Prelude.{slice_get, option_map}
use Rattle.std.specs.Ordering.{nat_cmp}
use Rattle.std.specs.Cmp.Lexicographic.{slice_cmp}
use Rattle.std.specs.Str.{bytes_eq}
use Rattle.std.specs.List.{list_any}
use Rattle.std.specs.BTreeSet.{contains, Updates}
use Rattle.std.specs.declared.vec.Vec.{Vec}
use Rattle.std.specs.declared.alloc.Global.{Global}
use Rattle.std.proofs.lemmas.List.Folds.{list_any-append}
use Rattle.std.proofs.lemmas.Map.Text.{is_eq-slice_cmp}
use Rattle.cad_codec.specs.Code.Seen.{has_bytes, Set, Holds, Adds}
use Rattle.cad_codec.specs.Code.Values.{all_new}

or_in : (b c : Bool) → cond b true c ≡ (c || (b || false))
or_in true true = refl
or_in true false = refl
or_in false true = refl
or_in false false = refl

pub adds : (old now : Set) (v : Vec ℕ Global) (key : List ℕ) (added : Bool) → v.items ≡ key → added ≡ not (contains (λ x y. slice_cmp nat_cmp x.items y.items) old v)
    → Updates (λ x y. slice_cmp nat_cmp x.items y.items) old now v true → Adds old now key added
adds old now v key added same is updates known holds = (
  is ∙ ap not (holds v ∙ ap (has_bytes known) same),
  λ q. updates.0 q
      ∙ ap (λ b. cond b true (contains (λ x y. slice_cmp nat_cmp x.items y.items) old q)) (is_eq-slice_cmp v.items q.items ∙ ap (λ (k : List ℕ). bytes_eq k q.items) same)
      ∙ ap (cond (bytes_eq key q.items) true) (holds q)
      ∙ or_in (bytes_eq key q.items) (has_bytes known q.items)
      ∙ sym (list_any-append (λ k. bytes_eq k q.items) known (key ∷ [])),
)

abbrev some : {A : Type 0} → A → Option A
some a = Some a

same_some : {A : Type 0} (a b : A) → some a ≡ some b → a ≡ b
same_some a b e = cc

take_one : {A : Type 0} (ks : List A) (i : ℕ) (key : A) → slice_get ks i ≡ Some key → take (suc i) ks ≡ take i ks ++ key ∷ []
take_one [] i key e = absurd cc
take_one {A} (k ∷ ks) zero key e = ap (λ (x : A). x ∷ []) (same_some k key e)
take_one {A} (k ∷ ks) (suc i) key e = ap (λ (xs : List A). k ∷ xs) (take_one ks i key e)

drop_one : {A : Type 0} (ks : List A) (i : ℕ) (key : A) → slice_get ks i ≡ Some key → drop i ks ≡ key ∷ drop (suc i) ks
drop_one [] i key e = absurd cc
drop_one {A} (k ∷ ks) zero key e = ap (λ (x : A). x ∷ ks) (same_some k key e)
drop_one {A} (k ∷ ks) (suc i) key e = drop_one ks i key e

-- the keys before a place were added, and differ if those from there on do
pub record Added (seen : Set) (ks : List (List ℕ)) (i : ℕ) : Type 0 where
  pub holds : Holds seen (take i ks)
  pub left : all_new (take i ks) (drop i ks) ≡ all_new [] ks

pub differs : (old now : Set) (ks : List (List ℕ)) (i : ℕ) (key : List ℕ) → Added old ks i → slice_get ks i ≡ Some key → Adds old now key true → Added now ks (i + 1)
differs old now ks i key so at added =
    let a = added (take i ks) so.holds in
    let next : i + 1 ≡ suc i = omega arith in
    let more : take (i + 1) ks ≡ take i ks ++ key ∷ [] = ap (λ (n : ℕ). take n ks) next ∙ take_one ks i key at in
    let less : drop i ks ≡ key ∷ drop (i + 1) ks = drop_one ks i key at ∙ ap (λ (n : ℕ). key ∷ drop n ks) (sym next) in
    record {
      holds = subst (Holds now) (sym more) a.1;
      left =
          ap (λ (xs : List (List ℕ)). all_new xs (drop (i + 1) ks)) more
          ∙ ap (λ b. b && all_new (take i ks ++ key ∷ []) (drop (i + 1) ks)) a.0
          ∙ ap (all_new (take i ks)) (sym less) ∙ so.left;
    }

pub repeats : (old now : Set) (ks : List (List ℕ)) (i : ℕ) (key : List ℕ) → Added old ks i → slice_get ks i ≡ Some key → Adds old now key false → false ≡ all_new [] ks
repeats old now ks i key so at added =
    let a = added (take i ks) so.holds in
    ap (λ b. b && all_new (take i ks ++ key ∷ []) (drop (suc i) ks)) a.0 ∙ ap (all_new (take i ks)) (sym (drop_one ks i key at)) ∙ so.left

all_left : {A : Type 0} (ks : List A) (i : ℕ) → length ks ≤ i → drop i ks ≡ []
all_left [] zero le = refl
all_left [] (suc i) le = refl
all_left (k ∷ ks) zero le = absurd (omega arith)
all_left (k ∷ ks) (suc i) le = all_left ks i (omega arith)

pub all_differ : (seen : Set) (ks : List (List ℕ)) (i : ℕ) → Added seen ks i → length ks ≤ i → true ≡ all_new [] ks
all_differ seen ks i so le = ap (all_new (take i ks)) (sym (all_left ks i le)) ∙ so.left
