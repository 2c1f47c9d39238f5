-- A fact of each item of a list, tested one after the other.
use Rattle.std.proofs.Common.{◌≡◌, ◌<◌, ◌≤◌, ◌+◌, ℕ, suc, Bool, true, false, List, [], ◌∷◌, length, drop, get_or, refl, sym, ap, ◌∙◌, subst, add-one}
use Rattle.std.specs.Prelude.{IsTrue, ◌↔◌, ◌&&◌}
use Rattle.std.proofs.Math.Seq.{drop-cons}
use Rattle.std.proofs.lemmas.List.{drop_all}

drop_at : {X : Type 0} (xs : List X) (i : ℕ) (x : X) → i < length xs → x ≡ get_or xs i x → drop i xs ≡ x ∷ drop (i + 1) xs
drop_at xs i x lt is = rw (add-one i) (drop-cons xs i x lt ∙ ap (λ w. w ∷ drop (suc i) xs) (sym is))

-- what holds of a list where something holds of its first item and it holds of the rest
abbrev pub Opens : {X : Type 0} → (X → Type 0) → (List X → Type 0) → Type 0
Opens {X} Q R = (x : X) (xs : List X) → R (x ∷ xs) ↔ (Q x × R xs)

pub goes_on : {X : Type 0} (Q : X → Type 0) (R : List X → Type 0) → Opens Q R → (xs : List X) (i : ℕ) (x : X) → i < length xs → x ≡ get_or xs i x → Q x → (R (drop i xs) ↔ R xs) → (R (drop (i + 1) xs) ↔ R xs)
goes_on {X} Q R opens xs i x lt is q so =
    let at = drop_at xs i x lt is in
    (λ rest. so.0 (subst R (sym at) ((opens x (drop (i + 1) xs)).1 (q, rest))), λ all. ((opens x (drop (i + 1) xs)).0 (subst R at (so.1 all))).1)

pub fails : {X : Type 0} (Q : X → Type 0) (R : List X → Type 0) → Opens Q R → (xs : List X) (i : ℕ) (x : X) → i < length xs → x ≡ get_or xs i x → (Q x → ⊥) → (R (drop i xs) ↔ R xs) → (IsTrue false ↔ R xs)
fails {X} Q R opens xs i x lt is q so = (λ e. absurd (let wrong : false ≡ true = e in cc), λ all. absurd (q ((opens x (drop (i + 1) xs)).0 (subst R (drop_at xs i x lt is) (so.1 all))).0))

pub holds_of_all : {X : Type 0} (R : List X → Type 0) → R [] → (xs : List X) (i : ℕ) → length xs ≤ i → (R (drop i xs) ↔ R xs) → (IsTrue true ↔ R xs)
holds_of_all {X} R none xs i end so = (λ e. so.0 (subst R (sym (drop_all i xs end)) none), λ all. refl)

pub not_so : {P : Type 0} (b : Bool) → (IsTrue b ↔ P) → b ≡ false → P → ⊥
not_so b tells e p = let wrong : true ≡ false = sym (tells.1 p) ∙ e in absurd cc

pub is_so : {P : Type 0} (b : Bool) → (IsTrue b ↔ P) → b ≡ true → P
is_so b tells e = tells.0 e

pub both : {P Q : Type 0} (a b : Bool) → (IsTrue a ↔ P) → (IsTrue b ↔ Q) → (IsTrue (a && b) ↔ (P × Q))
both true true p q = (λ e. (p.0 refl, q.0 refl), λ pq. refl)
both true false p q = (λ e. absurd (let wrong : false ≡ true = e in cc), λ pq. q.1 pq.1)
both false b p q = (λ e. absurd (let wrong : false ≡ true = e in cc), λ pq. p.1 pq.0)

-- the same of a list from some place on, with a fact that may rest on what follows
pub next : {X : Type 0} (Q : Type 0) (R : List X → Type 0) (T : Type 0) (xs : List X) (i : ℕ) (x : X) → i < length xs → x ≡ get_or xs i x → (R (x ∷ drop (i + 1) xs) ↔ (Q × R (drop (i + 1) xs))) → Q → (R (drop i xs) ↔ T) → (R (drop (i + 1) xs) ↔ T)
next {X} Q R T xs i x lt is opens q so =
    let at = drop_at xs i x lt is in
    (λ rest. so.0 (subst R (sym at) (opens.1 (q, rest))), λ all. (opens.0 (subst R at (so.1 all))).1)

pub broken : {X : Type 0} (Q : Type 0) (R : List X → Type 0) (T : Type 0) (xs : List X) (i : ℕ) (x : X) → i < length xs → x ≡ get_or xs i x → (R (x ∷ drop (i + 1) xs) ↔ (Q × R (drop (i + 1) xs))) → (Q → ⊥) → (R (drop i xs) ↔ T) → (IsTrue false ↔ T)
broken {X} Q R T xs i x lt is opens q so = (λ e. absurd (let wrong : false ≡ true = e in cc), λ all. absurd (q (opens.0 (subst R (drop_at xs i x lt is) (so.1 all))).0))

pub reached : {X : Type 0} (R : List X → Type 0) (T : Type 0) → R [] → (xs : List X) (i : ℕ) → length xs ≤ i → (R (drop i xs) ↔ T) → (IsTrue true ↔ T)
reached {X} R T none xs i end so = (λ e. so.0 (subst R (sym (drop_all i xs end)) none), λ all. refl)
