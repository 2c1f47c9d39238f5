-- Changes of maps.
use Rattle.std.proofs.Common.{◌≡◌, ℕ, Bool, true, false, cond, List, [], ◌∷◌, Option, refl, sym, ap, subst, ◌∙◌}
use Rattle.std.specs.List.{AllByRecursion}
use Rattle.cad_wire.specs.declared.entry.Entry.{Entry}
use Rattle.cad_accounts.specs.Registers.{Map, same_key, changed, applied}
use Rattle.cad_accounts.proofs.Keys.{same_is, not_same_back}

pub changed_else : (key : List ℕ) (v : Option (List ℕ)) (m : Map) (k : List ℕ) → same_key k key ≡ false → changed key v m k ≡ m k
changed_else key v m k e = rw e refl

cond_twice : {A : Type 0} (b : Bool) (x y z : A) → cond b x (cond b y z) ≡ cond b x z
cond_twice true x y z = refl
cond_twice false x y z = refl

pub changed_twice : (key : List ℕ) (v u : Option (List ℕ)) (m : Map) → changed key v (changed key u m) ≡ changed key v m
changed_twice key v u m = λ i k. cond_twice (same_key k key) v u (m k) i

swapped : (b c : Bool) {A : Type 0} (x y z : A) → (b ≡ true → c ≡ false) → cond b x (cond c y z) ≡ cond c y (cond b x z)
swapped false c x y z apart = refl
swapped true false x y z apart = refl
swapped true true x y z apart = let h : true ≡ false = apart refl in absurd cc

pub changed_swap : (j k : List ℕ) (v u : Option (List ℕ)) (m : Map) → same_key j k ≡ false → changed j v (changed k u m) ≡ changed k u (changed j v m)
changed_swap j k v u m apart = λ i x. swapped (same_key x j) (same_key x k) v u (m x) (λ e. subst (λ (y : List ℕ). same_key y k ≡ false) (sym (same_is x j e)) apart) i

kept : {A : Type 0} (b : Bool) (x y : A) → (b ≡ true → y ≡ x) → cond b x y ≡ y
kept true x y h = sym (h refl)
kept false x y h = refl

pub changed_kept : (key : List ℕ) (v : Option (List ℕ)) (m : Map) → m key ≡ v → changed key v m ≡ m
changed_kept key v m e = λ i k. kept (same_key k key) v (m k) (λ h. ap m (same_is k key h) ∙ e) i

-- none of the entries has this key
abbrev pub Free : List ℕ → List Entry → Type 0
Free key = AllByRecursion (λ e. same_key key e.key.0 ≡ false)

pub applied_after : (key : List ℕ) (v : Option (List ℕ)) (es : List Entry) (m : Map) → Free key es → applied es (changed key v m) ≡ changed key v (applied es m)
applied_after key v [] m free = refl
applied_after key v (e ∷ es) m free = ap (applied es) (changed_swap e.key.0 key e.value v m (not_same_back key e.key.0 free.0)) ∙ applied_after key v es (changed e.key.0 e.value m) free.1
