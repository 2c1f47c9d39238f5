-- Entries one after another, in another order and in one list.
use Rattle.std.proofs.Common.{◌≡◌, ℕ, Bool, true, false, cond, List, [], ◌∷◌, ◌++◌, None, refl, sym, ap, ◌∙◌, inl, inr}
use Rattle.std.specs.Prelude.{not, ◌&&◌}
use Rattle.std.specs.List.{filter}
use Rattle.std.specs.List.Sorted.{IsStableBy, ties}
use Rattle.std.specs.Ordering.{nat_cmp, is_lt}
use Rattle.std.specs.Cmp.Lexicographic.{slice_cmp}
use Rattle.std.proofs.lemmas.Bool.{cases_Bool, false≢true, false_from_ne_true}
use Rattle.cad_wire.specs.declared.entry.Entry.{Entry}
use Rattle.cad_accounts.specs.Registers.{Map, same_key, applied, changed, folded, no_registers}
use Rattle.cad_accounts.specs.KeyOrder.{before}
use Rattle.cad_accounts.proofs.Keys.{same_is, not_itself}

pub applied_append : (xs ys : List Entry) (m : Map) → applied (xs ++ ys) m ≡ applied ys (applied xs m)
applied_append [] ys m = refl
applied_append (x ∷ xs) ys m = applied_append xs ys (changed x.key.0 x.value m)

pub folded_push : (records : List (List Entry)) (entries : List Entry) (m : Map) → folded (records ++ entries ∷ []) m ≡ applied entries (folded records m)
folded_push [] entries m = refl
folded_push (r ∷ records) entries m = folded_push records entries (applied r m)

-- one more record
pub one_more : (was now entries : List Entry) (records : List (List Entry)) (m : Map) → applied was m ≡ folded records m → applied now m ≡ applied entries (applied was m) → applied now m ≡ folded (records ++ entries ∷ []) m
one_more was now entries records m inv is = is ∙ ap (applied entries) inv ∙ sym (folded_push records entries m)

-- one more entry of a record
pub one_taken : (was now entries : List Entry) (e : Entry) (first m : Map) → applied was m ≡ applied entries first → applied now m ≡ changed e.key.0 e.value (applied was m) → applied now m ≡ applied (entries ++ e ∷ []) first
one_taken was now entries e first m inv is = is ∙ ap (changed e.key.0 e.value) inv ∙ sym (applied_append entries (e ∷ []) first)

-- one more entry
pub entry_more : (old new : Map) (entries : List Entry) (entry : Entry) → ((key : List ℕ) → old key ≡ applied entries no_registers key) → ((key : List ℕ) → new key ≡ changed entry.key.0 entry.value old key) → (key : List ℕ) → new key ≡ applied (entries ++ entry ∷ []) no_registers key
entry_more old new entries entry inv is key =
    is key
    ∙ ap (λ o. cond (same_key key entry.key.0) entry.value o) (inv key)
    ∙ ap (λ (m : Map). m key) (sym (applied_append entries (entry ∷ []) no_registers))

applied_at : (entries : List Entry) (m n : Map) (key : List ℕ) → m key ≡ n key → applied entries m key ≡ applied entries n key
applied_at [] m n key e = e
applied_at (x ∷ entries) m n key e =
    applied_at entries (changed x.key.0 x.value m) (changed x.key.0 x.value n) key (ap (λ o. cond (same_key key x.key.0) x.value o) e)

-- the entries of other keys may be left out
applied_filter : (p : Entry → Bool) (key : List ℕ) → ((e : Entry) → same_key key e.key.0 ≡ true → p e ≡ true) → (entries : List Entry) (m : Map) → applied (filter p entries) m key ≡ applied entries m key
applied_filter p key h [] m = refl
applied_filter p key h (x ∷ entries) m =
    elim (cases_Bool (p x)) [
      | inl t ↦
          ap (λ b. applied (cond b (x ∷ filter p entries) (filter p entries)) m key) t
          ∙ applied_filter p key h entries (changed x.key.0 x.value m)
      | inr t ↦
          let other : same_key key x.key.0 ≡ false = false_from_ne_true (same_key key x.key.0) (λ s. false≢true (sym t ∙ h x s)) in
          ap (λ b. applied (cond b (x ∷ filter p entries) (filter p entries)) m key) t
          ∙ applied_filter p key h entries m
          ∙ applied_at entries m (changed x.key.0 x.value m) key (ap (λ b. cond b x.value (m key)) (sym other))
    ]

abbrev pub by_key : Entry → Entry → Bool
by_key x y = is_lt (slice_cmp nat_cmp x.key.0 y.key.0)

itself_ties : (x y : Entry) → y.key.0 ≡ x.key.0 → ties by_key x y ≡ true
itself_ties x y e =
    let a : before x.key.0 y.key.0 ≡ false = false_from_ne_true (before x.key.0 y.key.0) (λ h. not_itself x.key.0 (ap (before x.key.0) (sym e) ∙ h)) in
    let b : before y.key.0 x.key.0 ≡ false = false_from_ne_true (before y.key.0 x.key.0) (λ h. not_itself x.key.0 (ap (λ (k : List ℕ). before k x.key.0) (sym e) ∙ h)) in
    λ i. not (a i) && not (b i)

pub sorted_same : (old new : List Entry) → IsStableBy by_key old new → (m : Map) (key : List ℕ) → applied new m key ≡ applied old m key
sorted_same old new stable m key =
    let x : Entry = record { key = record { 0 = key }; value = None } in
    let p : Entry → Bool = ties by_key x in
    let h : (e : Entry) → same_key key e.key.0 ≡ true → p e ≡ true = λ e s. itself_ties x e (sym (same_is key e.key.0 s)) in
    sym (applied_filter p key h new m) ∙ ap (λ (l : List Entry). applied l m key) (stable x) ∙ applied_filter p key h old m
