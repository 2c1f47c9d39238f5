-- The entries that are read are those that were written, and what was written is read again.
use Rattle.std.proofs.Common.{◌≡◌, ℕ, zero, suc, ◌^◌, ◌<◌, ◌&&◌, Bool, true, false, cond, eqb, List, [], ◌∷◌, ◌++◌, length, Option, Some, None, Result, Ok, Err, refl, sym, ap, subst, ◌∙◌, append_assoc, arith}
use Rattle.std.specs.Prelude.{IfSome, IfOk, All}
use Rattle.std.specs.List.{flat_map, AllByRecursion}
use Rattle.std.proofs.lemmas.Bool.{eqb-true}
use Rattle.std.proofs.lemmas.List.{append-nil, nil_from_length}
use Rattle.std.proofs.lemmas.List.Elements.{All-from_recursion}
use Rattle.std.proofs.lemmas.List.Concat.{flat_map-cons}
use Rattle.cad_wire.specs.declared.entry.Entry.{Entry}
use Rattle.cad_wire.specs.declared.error.DecodeError.{DecodeError}
use Rattle.cad_wire.specs.Fields.{length_field, bytes_field, ◌>>=◌, length_at, bytes_at, AreBytes}
use Rattle.cad_wire.specs.Body.{change_field, entry_field, body_bytes, are_ascending, Fits, IsRecord}
use Rattle.cad_wire.specs.Reading.{Gives, change_at, entry_at, entries_at, entries_of}
use Rattle.cad_wire.proofs.FieldLaws.{AreBytes-tail, bind_some, some_is, Takes, Takes-then, length_takes, length_again, bytes_take, bytes_again}

guard_passed : {A : Type 0} (b : Bool) (x y : A) → cond b (Some x) None ≡ Some y → (b ≡ true) × (x ≡ y)
guard_passed true x y e = (refl, cc)
guard_passed false x y e = absurd cc

both_true : (a b : Bool) → (a && b) ≡ true → (a ≡ true) × (b ≡ true)
both_true true b e = (refl, e)
both_true false b e = absurd cc

pub All-by_recursion : {A : Type 0} (P : A → Type 0) (xs : List A) → All P xs → AllByRecursion P xs
All-by_recursion P [] each = tt
All-by_recursion P (x ∷ xs) each = (each 0 x (omega arith), All-by_recursion P xs (λ k d below. each (suc k) d (omega arith)))

change_takes : (bytes : List ℕ) (o : Option (List ℕ)) (rest : List ℕ) → AreBytes bytes → change_at bytes ≡ Some (o, rest) → Takes bytes (change_field o) rest × IfSome o (λ v. length v < 2 ^ 32)
unfolding change_at
change_takes [] o rest fits e = absurd cc
change_takes (zero ∷ bytes) o rest fits e =
    subst (λ (x : Option (List ℕ) × List ℕ). Takes (0 ∷ bytes) (change_field x.0) x.1 × IfSome x.0 (λ v. length v < 2 ^ 32)) (some_is (None, bytes) (o, rest) e) (record { parts = refl; rest_fits = AreBytes-tail 0 bytes fits }, tt)
change_takes (suc zero ∷ bytes) o rest fits e =
    let b = bind_some (bytes_at bytes) (λ v. Some (Some v.0, v.1)) (o, rest) e in
    let t = bytes_take bytes b.0.0 b.0.1 (AreBytes-tail 1 bytes fits) b.1 in
    subst (λ (x : Option (List ℕ) × List ℕ). Takes (1 ∷ bytes) (change_field x.0) x.1 × IfSome x.0 (λ v. length v < 2 ^ 32)) (some_is (Some b.0.0, b.0.1) (o, rest) b.2) (record { parts = ap (λ (w : List ℕ). 1 ∷ w) t.0.parts; rest_fits = t.0.rest_fits }, t.1)
change_takes (suc (suc b) ∷ bytes) o rest fits e = absurd cc

change_again : (o : Option (List ℕ)) (rest : List ℕ) → IfSome o (λ v. length v < 2 ^ 32) → change_at (change_field o ++ rest) ≡ Some (o, rest)
unfolding change_at
change_again None rest h = refl
change_again (Some v) rest h = rw (bytes_again v rest h) refl

entry_takes : (bytes : List ℕ) (x : Entry × List ℕ) → AreBytes bytes → entry_at bytes ≡ Some x → Takes bytes (entry_field x.0) x.1 × Fits x.0
unfolding entry_at
entry_takes bytes x fits e =
    let a = bind_some (bytes_at bytes) (λ key. change_at key.1 >>= λ value. Some (record { key = record { 0 = key.0 }; value = value.0 }, value.1)) x e in
    let b = bind_some (change_at a.0.1) (λ value. Some (record { key = record { 0 = a.0.0 }; value = value.0 }, value.1)) x a.2 in
    let t0 = bytes_take bytes a.0.0 a.0.1 fits a.1 in
    let t1 = change_takes a.0.1 b.0.0 b.0.1 t0.0.rest_fits b.1 in
    let both = Takes-then bytes (bytes_field a.0.0) a.0.1 (change_field b.0.0) b.0.1 t0.0 t1.0 in
    let made : Entry × List ℕ = (record { key = record { 0 = a.0.0 }; value = b.0.0 }, b.0.1) in
    subst (λ (y : Entry × List ℕ). Takes bytes (entry_field y.0) y.1 × Fits y.0) (some_is made x b.2) (both, record { key = t0.1; value = t1.1 })

entry_again : (entry : Entry) (rest : List ℕ) → Fits entry → entry_at (entry_field entry ++ rest) ≡ Some (entry, rest)
unfolding entry_at
entry_again entry rest fits =
    let regrouped : entry_field entry ++ rest ≡ bytes_field entry.key.0 ++ (change_field entry.value ++ rest) = append_assoc (bytes_field entry.key.0) (change_field entry.value) rest in
    ap entry_at regrouped ∙ rw (bytes_again entry.key.0 (change_field entry.value ++ rest) fits.key, change_again entry.value rest fits.value) refl

entries_take : (n : ℕ) (bytes : List ℕ) (x : List Entry × List ℕ) → AreBytes bytes → entries_at n bytes ≡ Some x → Takes bytes (flat_map entry_field x.0) x.1 × (length x.0 ≡ n) × AllByRecursion Fits x.0
unfolding entries_at
entries_take zero bytes x fits e =
    subst (λ (y : List Entry × List ℕ). Takes bytes (flat_map entry_field y.0) y.1 × (length y.0 ≡ 0) × AllByRecursion Fits y.0) (some_is ([], bytes) x e) (record { parts = refl; rest_fits = fits }, refl, tt)
entries_take (suc n) bytes x fits e =
    let a = bind_some (entry_at bytes) (λ first. entries_at n first.1 >>= λ others. Some (first.0 ∷ others.0, others.1)) x e in
    let b = bind_some (entries_at n a.0.1) (λ others. Some (a.0.0 ∷ others.0, others.1)) x a.2 in
    let first = entry_takes bytes a.0 fits a.1 in
    let second = entries_take n a.0.1 b.0 first.0.rest_fits b.1 in
    let both = Takes-then bytes (entry_field a.0.0) a.0.1 (flat_map entry_field b.0.0) b.0.1 first.0 second.0 in
    let made : List Entry × List ℕ = (a.0.0 ∷ b.0.0, b.0.1) in
    subst (λ (y : List Entry × List ℕ). Takes bytes (flat_map entry_field y.0) y.1 × (length y.0 ≡ suc n) × AllByRecursion Fits y.0) (some_is made x b.2) (rw flat_map-cons both, ap suc second.1, (first.1, second.2))

entries_again : (entries : List Entry) (rest : List ℕ) → AllByRecursion Fits entries → entries_at (length entries) (flat_map entry_field entries ++ rest) ≡ Some (entries, rest)
unfolding entries_at
entries_again [] rest fits = refl
entries_again (e ∷ entries) rest fits =
    let regrouped : flat_map entry_field (e ∷ entries) ++ rest ≡ entry_field e ++ (flat_map entry_field entries ++ rest) = ap (λ (x : List ℕ). x ++ rest) (flat_map-cons entry_field e entries) ∙ append_assoc (entry_field e) (flat_map entry_field entries) rest in
    ap (entries_at (suc (length entries))) regrouped ∙ rw (entry_again e (flat_map entry_field entries ++ rest) fits.0, entries_again entries rest fits.1) refl

abbrev members_of : List ℕ → Option (List Entry)
members_of bytes = length_at bytes >>= λ count. entries_at count.0 count.1 >>= λ x. cond (eqb (length x.1) 0 && are_ascending x.0) (Some x.0) None

members_take : (bytes : List ℕ) (entries : List Entry) → AreBytes bytes → members_of bytes ≡ Some entries → IsRecord entries × (bytes ≡ length_field (length entries) ++ flat_map entry_field entries)
members_take bytes entries fits e =
    let a = bind_some (length_at bytes) (λ n. entries_at n.0 n.1 >>= λ x. cond (eqb (length x.1) 0 && are_ascending x.0) (Some x.0) None) entries e in
    let b = bind_some (entries_at a.0.0 a.0.1) (λ x. cond (eqb (length x.1) 0 && are_ascending x.0) (Some x.0) None) entries a.2 in
    let g = guard_passed (eqb (length b.0.1) 0 && are_ascending b.0.0) b.0.0 entries b.2 in
    let tests = both_true (eqb (length b.0.1) 0) (are_ascending b.0.0) g.0 in
    let first = length_takes bytes a.0.0 a.0.1 fits a.1 in
    let second = entries_take a.0.0 a.0.1 b.0 first.0.rest_fits b.1 in
    let nothing : b.0.1 ≡ [] = nil_from_length b.0.1 (eqb-true _ _ tests.0) in
    let both = (Takes-then bytes (length_field a.0.0) a.0.1 (flat_map entry_field b.0.0) b.0.1 first.0 second.0).parts in
    let whole : bytes ≡ length_field (length b.0.0) ++ flat_map entry_field b.0.0 =
    both ∙ ap (λ (r : List ℕ). (length_field a.0.0 ++ flat_map entry_field b.0.0) ++ r) nothing ∙ append-nil (length_field a.0.0 ++ flat_map entry_field b.0.0) ∙ ap (λ (k : ℕ). length_field k ++ flat_map entry_field b.0.0) (sym second.1) in
    subst (λ (v : List Entry). IsRecord v × (bytes ≡ length_field (length v) ++ flat_map entry_field v)) g.1
    (record { few = record { few = omega (arith, second.1, first.1); fit = All-from_recursion Fits b.0.0 second.2 }; ascending = tests.1 }, whole)

one_format : (b : Bool) (o : Option (ℕ × List ℕ)) (x : ℕ × List ℕ) → cond b o None ≡ Some x → (b ≡ true) × (o ≡ Some x)
one_format true o x e = (refl, e)
one_format false o x e = absurd cc

-- what is read as entries is their body
pub body_takes : (bytes : List ℕ) (entries : List Entry) → AreBytes bytes → entries_of bytes ≡ Some entries → IsRecord entries × (bytes ≡ body_bytes entries)
unfolding entries_of
body_takes [] entries fits e = absurd cc
body_takes (b ∷ bytes) entries fits e =
    let a = bind_some (cond (eqb b 1) (length_at bytes) None) (λ n. entries_at n.0 n.1 >>= λ x. cond (eqb (length x.1) 0 && are_ascending x.0) (Some x.0) None) entries e in
    let format = one_format (eqb b 1) (length_at bytes) a.0 a.1 in
    let members : members_of bytes ≡ Some entries = rw format.1 a.2 in
    let m = members_take bytes entries (AreBytes-tail b bytes fits) members in
    (m.0, λ i. eqb-true b 1 format.0 i ∷ m.1 i)

-- and a body is read as its entries
pub body_again : (entries : List Entry) → IsRecord entries → entries_of (body_bytes entries) ≡ Some entries
unfolding entries_of
body_again entries record_of =
    let rest : entries_at (length entries) (flat_map entry_field entries) ≡ Some (entries, []) =
    ap (entries_at (length entries)) (sym (append-nil (flat_map entry_field entries))) ∙ entries_again entries [] (All-by_recursion Fits entries record_of.few.fit) in
    rw (length_again (length entries) (flat_map entry_field entries) record_of.few.few, rest, record_of.ascending) refl

pub is_found : (bytes : List ℕ) (r : Result (List Entry) DecodeError) → AreBytes bytes → Gives r (entries_of bytes) → IfOk r (λ entries. IsRecord entries × (bytes ≡ body_bytes entries))
is_found bytes (Ok entries) fits given = body_takes bytes entries fits given
is_found bytes (Err e) fits given = tt
