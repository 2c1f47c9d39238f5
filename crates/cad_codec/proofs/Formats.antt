-- What is written is read again, and what is read was so written: for what stands one after another.
use Rattle.std.proofs.Common.{◌≡◌, ℕ, zero, suc, ◌^◌, ◌<◌, Bool, true, false, cond, List, [], ◌∷◌, ◌++◌, length, Option, Some, None, refl, sym, ap, subst, ◌∙◌, append_assoc, arith}
use Rattle.std.proofs.lemmas.List.{append-nil}
use Rattle.std.proofs.lemmas.List.Concat.{flat_map-cons}
use Rattle.std.proofs.lemmas.Str.{IsUtf8-from_is_utf8, is_utf8-from_IsUtf8}
use Rattle.std.specs.List.{flat_map, AllByRecursion}
use Rattle.std.specs.Str.{is_utf8}
use Rattle.cad_syntax.specs.declared.text.Name.{Name}
use Rattle.cad_syntax.specs.declared.type_id.TypeId.{TypeId}
use Rattle.cad_wire.specs.Fields.{◌>>=◌, byte_at, number_at, length_at, bytes_at, number_field, length_field, bytes_field, AreBytes}
use Rattle.cad_wire.proofs.FieldLaws.{bind_some, some_is, Takes, Takes-then, AreBytes-tail, number_takes, number_again, length_takes, length_again, bytes_take, bytes_again}
use Rattle.cad_codec.specs.TypeBytes.{word, counted, name_field, id_bytes, ids_field}
use Rattle.cad_codec.specs.Ranges.{TextInRange, NameInRange, IdInRange, IdsInRange}
use Rattle.cad_codec.specs.Code.Fields.{At, then_at, made_at, found_at, tested_at, members_at, list_at, text_at, name_of, name_at, id_of, id_at}

-- things with these bytes are read by this reader, where they are valid, and no others are
pub record IsFormat {A : Type 0} (field : A → List ℕ) (Valid : A → Type 0) (at : At A) : Type 0 where
  pub again : (a : A) (rest : List ℕ) → Valid a → at (field a ++ rest) ≡ Some (a, rest)
  pub take : (bytes : List ℕ) (a : A) (rest : List ℕ) → AreBytes bytes → at bytes ≡ Some (a, rest) → Takes bytes (field a) rest × Valid a

pub words : IsFormat word (λ n. n < 2 ^ 64) number_at
unfolding word
words = record {
  again = λ n rest fits. number_again n rest fits;
  take = λ bytes n rest fits e. number_takes bytes n rest fits e;
}

if_passed : {A : Type 0} (b : Bool) (x y : A) → cond b (Some x) None ≡ Some y → (b ≡ true) × (x ≡ y)
if_passed true x y e = (refl, cc)
if_passed false x y e = absurd cc

pub pairs : {A B : Type 0} {f : A → List ℕ} {V : A → Type 0} {at : At A} {g : B → List ℕ} {W : B → Type 0} {bt : At B} → IsFormat f V at → IsFormat g W bt
    → IsFormat (λ (p : A × B). f p.0 ++ g p.1) (λ p. V p.0 × W p.1) (then_at at bt)
pairs {A} {B} {f} {V} {at} {g} {W} {bt} first second = record {
  again = λ p rest valid. ap (then_at at bt) (append_assoc (f p.0) (g p.1) rest) ∙ rw (first.again p.0 (g p.1 ++ rest) valid.0, second.again p.1 rest valid.1) refl;
  take = λ bytes p rest fits e.
      let a = bind_some (at bytes) (λ a. bt a.1 >>= λ b. Some ((a.0, b.0), b.1)) (p, rest) e in
      let b = bind_some (bt a.0.1) (λ b. Some ((a.0.0, b.0), b.1)) (p, rest) a.2 in
      let t = first.take bytes a.0.0 a.0.1 fits a.1 in
      let u = second.take a.0.1 b.0.0 b.0.1 t.0.rest_fits b.1 in
      subst (λ (x : (A × B) × List ℕ). Takes bytes (f x.0.0 ++ g x.0.1) x.1 × (V x.0.0 × W x.0.1)) (some_is ((a.0.0, b.0.0), b.0.1) (p, rest) b.2)
      (Takes-then bytes (f a.0.0) a.0.1 (g b.0.0) b.0.1 t.0 u.0, (t.1, u.1));
}

pub tested : {A : Type 0} {f : A → List ℕ} {V : A → Type 0} {at : At A} (test : A → Bool) → IsFormat f V at → IsFormat f (λ a. V a × (test a ≡ true)) (tested_at at test)
tested {A} {f} {V} {at} test item = record {
  again = λ a rest valid. rw (item.again a rest valid.0, valid.1) refl;
  take = λ bytes a rest fits e.
      let x = bind_some (at bytes) (λ x. cond (test x.0) (Some x) None) (a, rest) e in
      let g = if_passed (test x.0.0) x.0 (a, rest) x.2 in
      let t = item.take bytes x.0.0 x.0.1 fits x.1 in
      subst (λ (y : A × List ℕ). Takes bytes (f y.0) y.1 × (V y.0 × (test y.0 ≡ true))) g.1 (t.0, (t.1, g.0));
}

-- what is made of a thing, and taken apart again
pub found : {A B : Type 0} {f : A → List ℕ} {V : A → Type 0} {at : At A} (g : B → List ℕ) (W : B → Type 0) (make : A → Option B) (part : B → A)
    → ((b : B) → W b → V (part b) × (f (part b) ≡ g b) × (make (part b) ≡ Some b))
    → ((a : A) (b : B) → V a → make a ≡ Some b → W b × (f a ≡ g b))
    → IsFormat f V at → IsFormat g W (found_at at make)
found {A} {B} {f} {V} {at} g W make part back forth item = record {
  again = λ b rest valid.
      let p = back b valid in
      ap (λ (xs : List ℕ). found_at at make (xs ++ rest)) (sym p.1) ∙ rw (item.again (part b) rest p.0, p.2) refl;
  take = λ bytes b rest fits e.
      let x = bind_some (at bytes) (λ x. make x.0 >>= λ y. Some (y, x.1)) (b, rest) e in
      let y = bind_some (make x.0.0) (λ y. Some (y, x.0.1)) (b, rest) x.2 in
      let t = item.take bytes x.0.0 x.0.1 fits x.1 in
      let q = forth x.0.0 y.0 t.1 y.1 in
      subst (λ (z : B × List ℕ). Takes bytes (g z.0) z.1 × W z.0) (some_is (y.0, x.0.1) (b, rest) y.2) (subst (λ (xs : List ℕ). Takes bytes xs x.0.1) q.1 t.0, q.0);
}

-- the same where it can always be made
pub made : {A B : Type 0} {f : A → List ℕ} {V : A → Type 0} {at : At A} (g : B → List ℕ) (W : B → Type 0) (make : A → B) (part : B → A)
    → ((b : B) → W b → V (part b) × (f (part b) ≡ g b) × (make (part b) ≡ b))
    → ((a : A) → V a → W (make a) × (f a ≡ g (make a)))
    → IsFormat f V at → IsFormat g W (made_at at make)
made {A} {B} {f} {V} {at} g W make part back forth item = record {
  again = λ b rest valid.
      let p = back b valid in
      ap (λ (xs : List ℕ). made_at at make (xs ++ rest)) (sym p.1) ∙ rw (item.again (part b) rest p.0, p.2) refl;
  take = λ bytes b rest fits e.
      let x = bind_some (at bytes) (λ x. Some (make x.0, x.1)) (b, rest) e in
      let t = item.take bytes x.0.0 x.0.1 fits x.1 in
      let q = forth x.0.0 t.1 in
      subst (λ (z : B × List ℕ). Takes bytes (g z.0) z.1 × W z.0) (some_is (make x.0.0, x.0.1) (b, rest) x.2) (subst (λ (xs : List ℕ). Takes bytes xs x.0.1) q.1 t.0, q.0);
}

members_again : {A : Type 0} {f : A → List ℕ} {V : A → Type 0} {at : At A} → IsFormat f V at → (xs : List A) (rest : List ℕ) → AllByRecursion V xs → members_at at (length xs) (flat_map f xs ++ rest) ≡ Some (xs, rest)
unfolding members_at
members_again {A} {f} {V} {at} item [] rest valid = refl
members_again {A} {f} {V} {at} item (x ∷ xs) rest valid =
    let regrouped : flat_map f (x ∷ xs) ++ rest ≡ f x ++ (flat_map f xs ++ rest) = ap (λ (w : List ℕ). w ++ rest) (flat_map-cons f x xs) ∙ append_assoc (f x) (flat_map f xs) rest in
    ap (members_at at (suc (length xs))) regrouped ∙ rw (item.again x (flat_map f xs ++ rest) valid.0, members_again item xs rest valid.1) refl

members_take : {A : Type 0} {f : A → List ℕ} {V : A → Type 0} {at : At A} → IsFormat f V at → (n : ℕ) (bytes : List ℕ) (xs : List A) (rest : List ℕ) → AreBytes bytes → members_at at n bytes ≡ Some (xs, rest)
    → Takes bytes (flat_map f xs) rest × (length xs ≡ n) × AllByRecursion V xs
unfolding members_at
members_take {A} {f} {V} {at} item zero bytes xs rest fits e =
    subst (λ (y : List A × List ℕ). Takes bytes (flat_map f y.0) y.1 × (length y.0 ≡ 0) × AllByRecursion V y.0) (some_is ([], bytes) (xs, rest) e) (record { parts = refl; rest_fits = fits }, refl, tt)
members_take {A} {f} {V} {at} item (suc n) bytes xs rest fits e =
    let a = bind_some (at bytes) (λ first. members_at at n first.1 >>= λ others. Some (first.0 ∷ others.0, others.1)) (xs, rest) e in
    let b = bind_some (members_at at n a.0.1) (λ others. Some (a.0.0 ∷ others.0, others.1)) (xs, rest) a.2 in
    let first = item.take bytes a.0.0 a.0.1 fits a.1 in
    let others = members_take item n a.0.1 b.0.0 b.0.1 first.0.rest_fits b.1 in
    let both = Takes-then bytes (f a.0.0) a.0.1 (flat_map f b.0.0) b.0.1 first.0 others.0 in
    subst (λ (y : List A × List ℕ). Takes bytes (flat_map f y.0) y.1 × (length y.0 ≡ suc n) × AllByRecursion V y.0) (some_is (a.0.0 ∷ b.0.0, b.0.1) (xs, rest) b.2)
    (subst (λ (w : List ℕ). Takes bytes w b.0.1) (sym (flat_map-cons f a.0.0 b.0.0)) both, ap suc others.1, (first.1, others.2))

pub lists : {A : Type 0} {f : A → List ℕ} {V : A → Type 0} {at : At A} → IsFormat f V at → IsFormat (λ (xs : List A). counted (length xs) (flat_map f xs)) (λ xs. (length xs < 2 ^ 32) × AllByRecursion V xs) (list_at at)
unfolding counted
lists {A} {f} {V} {at} item = record {
  again = λ xs rest valid. ap (list_at at) (append_assoc (length_field (length xs)) (flat_map f xs) rest) ∙ rw (length_again (length xs) (flat_map f xs ++ rest) valid.0) (members_again item xs rest valid.1);
  take = λ bytes xs rest fits e.
      let n = bind_some (length_at bytes) (λ n. members_at at n.0 n.1) (xs, rest) e in
      let l = length_takes bytes n.0.0 n.0.1 fits n.1 in
      let m = members_take item n.0.0 n.0.1 xs rest l.0.rest_fits n.2 in
      let both = Takes-then bytes (length_field n.0.0) n.0.1 (flat_map f xs) rest l.0 m.0 in
      (subst (λ (k : ℕ). Takes bytes (length_field k ++ flat_map f xs) rest) (sym m.1) both, (subst (λ (k : ℕ). k < 2 ^ 32) (sym m.1) l.1, m.2));
}

strings : IsFormat bytes_field (λ text. length text < 2 ^ 32) bytes_at
strings = record {
  again = λ text rest fits. bytes_again text rest fits;
  take = λ bytes text rest fits e. bytes_take bytes text rest fits e;
}

pub texts : IsFormat bytes_field TextInRange text_at
texts =
    let t = tested is_utf8 strings in
    record {
      again = λ text rest valid. t.again text rest (valid.1, is_utf8-from_IsUtf8 text valid.0);
      take = λ bytes text rest fits e.
          let x = t.take bytes text rest fits e in
          (x.0, (IsUtf8-from_is_utf8 text x.1.1, x.1.0));
    }

pub name_format : IsFormat name_field NameInRange name_at
name_format = made name_field NameInRange name_of (λ name. name.0) (λ name valid. (valid, refl, refl)) (λ text valid. (valid, refl)) texts

pub ids_one : IsFormat id_bytes IdInRange id_at
unfolding id_bytes
ids_one = made id_bytes IdInRange id_of (λ id. (id.address.0, id.names)) (λ id valid. ((valid.0, (valid.1, valid.2)), refl, refl)) (λ x valid. ((valid.0, valid.1.0, valid.1.1), refl)) (pairs words (lists name_format))

pub id_lists : IsFormat ids_field IdsInRange (list_at id_at)
id_lists = lists ids_one
