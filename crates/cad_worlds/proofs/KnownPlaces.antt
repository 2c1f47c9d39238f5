-- Places of known accounts, and what is found among them.
use Rattle.std.proofs.Common.{◌≡◌, ℕ, suc, ◌<◌, ◌≤◌, true, false, List, [], ◌∷◌, Some, None, length, drop, get_or, refl, sym, ap, subst, ◌∙◌, arith, inl, inr}
use Rattle.std.specs.Prelude.{is_some}
use Rattle.std.proofs.lemmas.Bool.{cases_eq, eq-eqb, ne_eqb}
use Rattle.cad_state.specs.Parts.{known_in}
use Rattle.cad_state.specs.Views.{account_of}
use Rattle.cad_state.specs.declared.state.Known.{Known}
use Rattle.cad_worlds.proofs.Lists.{none_past, from_item}
use Rattle.cad_worlds.specs.Code.KnownRegisters.{has_index, StandBetween}

-- ---- one account

pub known_here : (k : Known) (ks : List Known) (i : ℕ) → k.index ≡ i → known_in (k ∷ ks) i ≡ Some (account_of k.account)
known_here k ks i e = rw (eq-eqb k.index i e) refl

pub known_past : (k : Known) (ks : List Known) (i : ℕ) → (k.index ≡ i → ⊥) → known_in (k ∷ ks) i ≡ known_in ks i
known_past k ks i n = rw (ne_eqb k.index i n) refl

pub index_past : (known : List Known) (at : ℕ) (k : Known) (i : ℕ) → at < length known → k ≡ get_or known at k → (k.index ≡ i → ⊥) → has_index (drop (suc at) known) i ≡ has_index (drop at known) i
index_past known at k i inside is n = sym (ap (λ (l : List Known). has_index l i) (from_item known at k inside is) ∙ ap is_some (known_past k (drop (suc at) known) i n))

pub index_here : (known : List Known) (at : ℕ) (k : Known) (i : ℕ) → at < length known → k ≡ get_or known at k → k.index ≡ i → has_index (drop at known) i ≡ true
index_here known at k i inside is e = ap (λ (l : List Known). has_index l i) (from_item known at k inside is) ∙ ap is_some (known_here k (drop (suc at) known) i e)

pub index_end : (known : List Known) (at i : ℕ) → length known ≤ at → has_index (drop at known) i ≡ false
index_end known at i outside = ap (λ (l : List Known). has_index l i) (none_past known at outside)

-- ---- all of them

-- one place more
pub known_more : (known : List Known) (from i : ℕ) → ((j : ℕ) → from ≤ j → j < i → has_index known j ≡ true) → has_index known i ≡ true → (j : ℕ) → from ≤ j → j < suc i → has_index known j ≡ true
known_more known from i so_far here j low high =
    elim (cases_eq j i) [
      | inl e ↦ ap (has_index known) e ∙ here
      | inr n ↦ so_far j low (omega arith)
    ]

-- ---- in order

pub order_turn : (known : List Known) (at count least next : ℕ) (k : Known) (Whole : Type 0) → at < length known → k ≡ get_or known at k → least ≤ k.index → k.index < count → next ≡ suc k.index
    → (StandBetween least count (drop at known) → Whole) → StandBetween next count (drop (suc at) known) → Whole
order_turn known at count least next k Whole inside is low high next_is so_far h =
    so_far (subst (StandBetween least count) (sym (from_item known at k inside is)) (low, high, subst (λ (n : ℕ). StandBetween n count (drop (suc at) known)) next_is h))

pub order_end : (known : List Known) (at count least : ℕ) (Whole : Type 0) → length known ≤ at → (StandBetween least count (drop at known) → Whole) → Whole
order_end known at count least Whole outside so_far = so_far (subst (StandBetween least count) (sym (none_past known at outside)) tt)

-- none stands before the first
pub none_below : (ks : List Known) (least count i : ℕ) → StandBetween least count ks → i < least → known_in ks i ≡ None
none_below [] least count i h lt = refl
none_below (k ∷ ks) least count i h lt =
    known_past k ks i (λ e. absurd (omega (arith, h.0, e))) ∙ none_below ks (suc k.index) count i h.2 (omega (arith, h.0))
