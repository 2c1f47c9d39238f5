-- Two lists in byte order of their keys, equally long, are one where all of the one are among the other.
use Rattle.std.proofs.Common.{◌≡◌, ℕ, ◌≤◌, true, List, [], ◌∷◌, length, refl, sym, subst, arith, inl, inr}
use Rattle.std.specs.Prelude.{◌⊎◌}
use Rattle.std.specs.List.{AllByRecursion}
use Rattle.cad_accounts.proofs.Keys.{not_itself}
use Rattle.cad_accounts.proofs.Order.{behind_all, first_before, tail_rises}
use Rattle.cad_accounts.specs.Code.Places.{AllBehind}
use Rattle.cad_accounts.specs.KeyOrder.{before, rise}
use Rattle.cad_world.specs.Registers.{Register}
use Rattle.cad_worlds.specs.Laws.{register_key}

abbrev pub IsIn : List Register → Register → Type 0
IsIn [] r = ⊥
IsIn (x ∷ xs) r = (r ≡ x) ⊎ IsIn xs r

all_wider : (x : Register) (xs ys : List Register) → AllByRecursion (IsIn xs) ys → AllByRecursion (IsIn (x ∷ xs)) ys
all_wider x xs [] h = tt
all_wider x xs (y ∷ ys) h = (inr h.0, all_wider x xs ys h.1)

pub all_in : (xs : List Register) → AllByRecursion (IsIn xs) xs
all_in [] = tt
all_in (x ∷ xs) = (inl refl, all_wider x xs xs (all_in xs))

-- what is among those behind a register stands behind it
in_behind : (r : Register) (key : List ℕ) (xs : List Register) → AllBehind register_key key xs → IsIn xs r → before key r.key ≡ true
in_behind r key [] h i = absurd i
in_behind r key (x ∷ xs) h (inl e) = subst (λ (y : Register). before key y.key ≡ true) (sym e) h.0
in_behind r key (x ∷ xs) h (inr i) = in_behind r key xs h.1 i

-- what stands behind a register isn't that one
not_first : (r y : Register) (ys : List Register) → before y.key r.key ≡ true → IsIn (y ∷ ys) r → IsIn ys r
not_first r y ys b (inl e) = absurd (not_itself y.key (subst (λ (x : Register). before y.key x.key ≡ true) e b))
not_first r y ys b (inr i) = i

all_narrower : (y : Register) (ys xs : List Register) → AllBehind register_key y.key xs → AllByRecursion (IsIn (y ∷ ys)) xs → AllByRecursion (IsIn ys) xs
all_narrower y ys [] b h = tt
all_narrower y ys (x ∷ xs) b h = (not_first x y ys b.0 h.0, all_narrower y ys xs b.1 h.1)

abbrev rises : List Register → Type 0
rises xs = rise register_key xs ≡ true

-- the first is the first of the others, or all stand among those behind it
module _ (x y : Register) (xs ys : List Register) (a : rises (x ∷ xs)) (b : rises (y ∷ ys)) (h : AllByRecursion (IsIn (y ∷ ys)) (x ∷ xs)) where
  same_first : x ≡ y → AllByRecursion (IsIn ys) xs
  same_first e = all_narrower y ys xs (subst (λ (z : Register). AllBehind register_key z.key xs) e (first_before register_key x xs a)) h.1

  later_first : IsIn ys x → AllByRecursion (IsIn ys) (x ∷ xs)
  later_first i =
      let behind = in_behind x y.key ys (first_before register_key y ys b) i in
      (i, all_narrower y ys xs (behind_all register_key y.key x.key xs behind (first_before register_key x xs a)) h.1)

no_longer : (xs ys : List Register) → rises xs → rises ys → AllByRecursion (IsIn ys) xs → length xs ≤ length ys
no_longer [] ys a b h = omega arith
no_longer (x ∷ xs) [] a b h = absurd h.0
no_longer (x ∷ xs) (y ∷ ys) a b h =
    elim h.0 [
      | inl e ↦ let rest = no_longer xs ys (tail_rises register_key x xs a) (tail_rises register_key y ys b) (same_first x y xs ys a b h e) in omega (arith, rest)
      | inr i ↦ let rest = no_longer (x ∷ xs) ys a (tail_rises register_key y ys b) (later_first x y xs ys a b h i) in omega (arith, rest)
    ]

pub one_list : (xs ys : List Register) → rises xs → rises ys → AllByRecursion (IsIn ys) xs → length ys ≡ length xs → xs ≡ ys
one_list [] [] a b h e = refl
one_list [] (y ∷ ys) a b h e = absurd (omega (arith, e))
one_list (x ∷ xs) [] a b h e = absurd h.0
one_list (x ∷ xs) (y ∷ ys) a b h e =
    elim h.0 [
      | inl same ↦ let rest = one_list xs ys (tail_rises register_key x xs a) (tail_rises register_key y ys b) (same_first x y xs ys a b h same) (omega (arith, e)) in λ i. same i ∷ rest i
      | inr i ↦ let long = no_longer (x ∷ xs) ys a (tail_rises register_key y ys b) (later_first x y xs ys a b h i) in absurd (omega (arith, long, e))
    ]
