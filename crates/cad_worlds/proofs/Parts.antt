-- Registers whose keys stand in byte order, between two places in the order of kinds and addresses.
use Rattle.std.proofs.Common.{◌≡◌, ℕ, suc, ◌+◌, ◌*◌, ◌^◌, ◌<◌, ◌≤◌, Bool, true, List, [], ◌∷◌, ◌++◌, map, length, refl, ap, ◌∙◌, arith, inl, inr, ◌⊎◌}
use Rattle.std.specs.List.{AllByRecursion}
use Rattle.std.specs.Ordering.{nat_cmp, is_lt, ordering_then}
use Rattle.std.specs.Cmp.Lexicographic.{slice_cmp}
use Rattle.std.specs.declared.cmp.Ordering.{Ordering}
use Rattle.std.specs.declared.cmp.Ordering.TheVariants.{Less, Equal, Greater}
use Rattle.std.proofs.lemmas.Bool.{cases_lt}
use Rattle.cad_accounts.specs.Code.Places.{AllBehind}
use Rattle.cad_accounts.specs.KeyOrder.{before, rise}
use Rattle.cad_accounts.proofs.Order.{both, both_left, both_right, tail_rises, first_before, join}
use Rattle.cad_wire.specs.Fields.{number_field}
use Rattle.cad_world.specs.Orders.{rises}
use Rattle.cad_world.specs.Registers.{Register, of_accounts}
use Rattle.cad_world.specs.State.{Account}
use Rattle.cad_worlds.specs.Laws.{register_key}
use Rattle.cad_worlds.proofs.Numbers.{tied, less_step, number_before}

-- ---- keys of a kind, an address and a name

abbrev pub key_of : ℕ → ℕ → List ℕ → List ℕ
key_of k n name = k ∷ (number_field n ++ name)

then_less : (o p q : Ordering) → (p ≡ Less → q ≡ Less) → ordering_then o p ≡ Less → ordering_then o q ≡ Less
then_less Less p q f e = refl
then_less Equal p q f e = f e
then_less Greater p q f e = absurd cc

less_with : (xs ys u v : List ℕ) → length xs ≡ length ys → slice_cmp nat_cmp xs ys ≡ Less → slice_cmp nat_cmp (xs ++ u) (ys ++ v) ≡ Less
less_with [] [] u v n e = absurd cc
less_with [] (y ∷ ys) u v n e = absurd (omega (arith, n))
less_with (x ∷ xs) [] u v n e = absurd (omega (arith, n))
less_with (x ∷ xs) (y ∷ ys) u v n e = then_less (nat_cmp x y) (slice_cmp nat_cmp xs ys) (slice_cmp nat_cmp (xs ++ u) (ys ++ v)) (λ f. less_with xs ys u v (omega (arith, n)) f) e

same_front : (p x y : List ℕ) → slice_cmp nat_cmp (p ++ x) (p ++ y) ≡ slice_cmp nat_cmp x y
same_front [] x y = refl
same_front (c ∷ p) x y = ap (λ o. ordering_then o (slice_cmp nat_cmp (p ++ x) (p ++ y))) (tied c) ∙ same_front p x y

pub ahead : (k l m n : ℕ) (x y : List ℕ) → (k < l) ⊎ ((k ≡ l) × (m < n)) → n < 2 ^ 64 → before (key_of k m x) (key_of l n y) ≡ true
ahead k l m n x y (inl lt) fits = ap is_lt (less_step k l (number_field m ++ x) (number_field n ++ y) (inl lt))
ahead k l m n x y (inr e) fits = ap is_lt (less_step k l (number_field m ++ x) (number_field n ++ y) (inr (e.0, less_with (number_field m) (number_field n) x y refl (number_before m n e.1 fits))))

-- of one kind and address
pub in_one : (k n : ℕ) (x y : List ℕ) → before x y ≡ true → before (key_of k n x) (key_of k n y) ≡ true
in_one k n x y e = ap is_lt (same_front (k ∷ number_field n) x y) ∙ e

-- ---- registers between two places in the order of kinds and addresses

pub record Placed (low high : ℕ) (x : Register) : Type 0 where
  pub kind : ℕ
  pub address : ℕ
  pub name : List ℕ
  pub key_is : x.key ≡ key_of kind address name
  pub fits : address < 2 ^ 64
  pub at_least : low ≤ kind * 2 ^ 64 + address
  pub below : kind * 2 ^ 64 + address < high

pub record Part (low high : ℕ) (xs : List Register) : Type 0 where
  pub rises : rise register_key xs ≡ true
  pub placed : AllByRecursion (Placed low high) xs

which : (k l m n mid : ℕ) → m < 2 ^ 64 → n < 2 ^ 64 → k * 2 ^ 64 + m < mid → mid ≤ l * 2 ^ 64 + n → (k < l) ⊎ ((k ≡ l) × (m < n))
which k l m n mid a b c d =
    elim (cases_lt k l) [
      | inl lt ↦ inl lt
      | inr le ↦
          let same : k ≡ l = omega arith in
          inr (same, omega arith)
    ]

placed_before : (low mid high : ℕ) (x y : Register) → Placed low mid x → Placed mid high y → before x.key y.key ≡ true
placed_before low mid high x y p q =
    (λ i. before (p.key_is i) (q.key_is i))
    ∙ ahead p.kind q.kind p.address q.address p.name q.name (which p.kind q.kind p.address q.address mid p.fits q.fits p.below q.at_least) q.fits

behind_part : (low mid high : ℕ) (x : Register) (ys : List Register) → Placed low mid x → AllByRecursion (Placed mid high) ys → AllBehind register_key x.key ys
behind_part low mid high x [] p h = tt
behind_part low mid high x (y ∷ ys) p h = (placed_before low mid high x y p h.0, behind_part low mid high x ys p h.1)

append_behind : (key : List ℕ) (xs ys : List Register) → AllBehind register_key key xs → AllBehind register_key key ys → AllBehind register_key key (xs ++ ys)
append_behind key [] ys a b = b
append_behind key (x ∷ xs) ys a b = (a.0, append_behind key xs ys a.1 b)

both_rise : (low mid high : ℕ) (xs ys : List Register) → Part low mid xs → Part mid high ys → rise register_key (xs ++ ys) ≡ true
both_rise low mid high [] ys p q = q.rises
both_rise low mid high (x ∷ xs) ys p q =
    join register_key x (xs ++ ys) (append_behind x.key xs ys (first_before register_key x xs p.rises) (behind_part low mid high x ys p.placed.0 q.placed))
    (both_rise low mid high xs ys (record { rises = tail_rises register_key x xs p.rises; placed = p.placed.1 }) q)

wider_one : (a b low high : ℕ) (x : Register) → a ≤ low → high ≤ b → Placed low high x → Placed a b x
wider_one a b low high x e f p = record {
  kind = p.kind;
  address = p.address;
  name = p.name;
  key_is = p.key_is;
  fits = p.fits;
  at_least = omega (arith, p.at_least);
  below = omega (arith, p.below);
}

wider : (a b low high : ℕ) (xs : List Register) → a ≤ low → high ≤ b → AllByRecursion (Placed low high) xs → AllByRecursion (Placed a b) xs
wider a b low high [] e f h = tt
wider a b low high (x ∷ xs) e f h = (wider_one a b low high x e f h.0, wider a b low high xs e f h.1)

all_of_both : {A : Type 0} (P : A → Type 0) (xs ys : List A) → AllByRecursion P xs → AllByRecursion P ys → AllByRecursion P (xs ++ ys)
all_of_both P [] ys a b = b
all_of_both P (x ∷ xs) ys a b = (a.0, all_of_both P xs ys a.1 b)

pub two_parts : (low mid high : ℕ) (xs ys : List Register) → low ≤ mid → mid ≤ high → Part low mid xs → Part mid high ys → Part low high (xs ++ ys)
two_parts low mid high xs ys a b p q = record {
  rises = both_rise low mid high xs ys p q;
  placed = all_of_both (Placed low high) xs ys (wider low high low mid xs (omega arith) b p.placed) (wider low high mid high ys a (omega arith) q.placed);
}

pub wider_part : (a b low high : ℕ) (xs : List Register) → a ≤ low → high ≤ b → Part low high xs → Part a b xs
wider_part a b low high xs e f p = record { rises = p.rises; placed = wider a b low high xs e f p.placed }

-- ---- the registers of one kind

module _ (k : ℕ) (f : ℕ → Account → List Register) (P : Account → Type 0) (one : (n : ℕ) (a : Account) → n < 2 ^ 64 → P a → Part (k * 2 ^ 64 + n) (k * 2 ^ 64 + suc n) (f n a)) where
  pub section : (n : ℕ) (all : List Account) → n + length all ≤ 2 ^ 64 → AllByRecursion P all → Part (k * 2 ^ 64 + n) (k * 2 ^ 64 + 2 ^ 64) (of_accounts f n all)
  section n [] le s = record { rises = refl; placed = tt }
  section n (a ∷ all) le s =
      two_parts (k * 2 ^ 64 + n) (k * 2 ^ 64 + suc n) (k * 2 ^ 64 + 2 ^ 64) (f n a) (of_accounts f (suc n) all) (omega arith) (omega (arith, le)) (one n a (omega (arith, le)) s.0)
      (section (suc n) all (omega (arith, le)) s.1)

abbrev pub at_key : ℕ → ℕ → List ℕ → Register → Type 0
at_key k n name x = x.key ≡ key_of k n name

pub here : (k n : ℕ) (name : List ℕ) (x : Register) → n < 2 ^ 64 → at_key k n name x → Placed (k * 2 ^ 64 + n) (k * 2 ^ 64 + suc n) x
here k n name x fits e = record { kind = k; address = n; name = name; key_is = e; fits = fits; at_least = omega arith; below = omega arith }

pub map_rises : {A : Type 0} (earlier : A → A → Bool) (P : A → Type 0) (g : A → Register) → ((x y : A) → P x → P y → earlier x y ≡ true → before (g x).key (g y).key ≡ true)
    → (xs : List A) → AllByRecursion P xs → rises earlier xs ≡ true → rise register_key (map g xs) ≡ true
map_rises earlier P g h [] p e = refl
map_rises earlier P g h (x ∷ []) p e = refl
map_rises earlier P g h (x ∷ y ∷ xs) p e =
    both (before (g x).key (g y).key) (rise register_key (map g (y ∷ xs))) (h x y p.0 p.1.0 (both_left (earlier x y) (rises earlier (y ∷ xs)) e))
    (map_rises earlier P g h (y ∷ xs) p.1 (both_right (earlier x y) (rises earlier (y ∷ xs)) e))

pub map_placed : {A : Type 0} (low high : ℕ) (P : A → Type 0) (g : A → Register) → ((x : A) → P x → Placed low high (g x)) → (xs : List A) → AllByRecursion P xs → AllByRecursion (Placed low high) (map g xs)
map_placed low high P g h [] p = tt
map_placed low high P g h (x ∷ xs) p = (h x p.0, map_placed low high P g h xs p.1)
