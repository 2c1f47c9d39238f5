-- Rows in order with one map are one list.
use Rattle.std.proofs.Common.{◌≡◌, ℕ, Bool, true, false, cond, List, [], ◌∷◌, Option, Some, None, refl, sym, ap, subst, ◌∙◌}
use Rattle.std.specs.Ordering.{nat_cmp, is_lt}
use Rattle.std.specs.Cmp.Lexicographic.{slice_cmp}
use Rattle.std.specs.declared.cmp.Ordering.{Ordering}
use Rattle.std.specs.declared.cmp.Ordering.TheVariants.{Less, Equal, Greater}
use Rattle.cad_accounts.specs.declared.row.Row.{Row}
use Rattle.cad_accounts.specs.Registers.{same_key, at, are_rising}
use Rattle.cad_accounts.specs.Code.Places.{AllBehind}
use Rattle.cad_accounts.specs.KeyOrder.{row_key}
use Rattle.cad_accounts.proofs.Keys.{itself, same_is, equal_is, greater_is}
use Rattle.cad_accounts.proofs.Order.{behind_all, first_before, tail_rises}
use Rattle.cad_accounts.proofs.RowLaws.{none_behind}

pub at_first : (r : Row) (rows : List Row) → at (r ∷ rows) r.key.0 ≡ Some r.value
at_first r rows = rw (itself r.key.0) refl

-- a row that is there has the least key, or a greater one
least : (o : Ordering) (r : Row) (s : Row) (rows ss : List Row) → slice_cmp nat_cmp r.key.0 s.key.0 ≡ o → are_rising (r ∷ rows) ≡ true → are_rising (s ∷ ss) ≡ true → ((key : List ℕ) → at (r ∷ rows) key ≡ at (s ∷ ss) key) → r.key.0 ≡ s.key.0
least Equal r s rows ss e a b same = equal_is r.key.0 s.key.0 e
least Less r s rows ss e a b same =
    let none : at (s ∷ ss) r.key.0 ≡ None = none_behind (s ∷ ss) r.key.0 (ap is_lt e, behind_all row_key r.key.0 s.key.0 ss (ap is_lt e) (first_before row_key s ss b)) in
    let some : at (s ∷ ss) r.key.0 ≡ Some r.value = sym (same r.key.0) ∙ at_first r rows in
    absurd cc
least Greater r s rows ss e a b same =
    let lt = greater_is r.key.0 s.key.0 e in
    let none : at (r ∷ rows) s.key.0 ≡ None = none_behind (r ∷ rows) s.key.0 (lt, behind_all row_key s.key.0 r.key.0 rows lt (first_before row_key r rows a)) in
    let some : at (r ∷ rows) s.key.0 ≡ Some s.value = same s.key.0 ∙ at_first s ss in
    absurd cc

behind : (b : Bool) (x y : Option (List ℕ)) (u v : List ℕ) → cond b (Some u) x ≡ cond b (Some v) y → (b ≡ true → x ≡ y) → x ≡ y
behind true x y u v e f = f refl
behind false x y u v e f = e

pub one_list : (rows ss : List Row) → are_rising rows ≡ true → are_rising ss ≡ true → ((key : List ℕ) → at rows key ≡ at ss key) → rows ≡ ss
one_list [] [] a b same = refl
one_list [] (s ∷ ss) a b same = let h : None ≡ Some s.value = same s.key.0 ∙ at_first s ss in absurd cc
one_list (r ∷ rows) [] a b same = let h : Some r.value ≡ None = sym (at_first r rows) ∙ same r.key.0 in absurd cc
one_list (r ∷ rows) (s ∷ ss) a b same =
    let keys : r.key.0 ≡ s.key.0 = least (slice_cmp nat_cmp r.key.0 s.key.0) r s rows ss refl a b same in
    let there : at (s ∷ ss) r.key.0 ≡ Some s.value = subst (λ (k : List ℕ). at (s ∷ ss) k ≡ Some s.value) (sym keys) (at_first s ss) in
    let values : r.value ≡ s.value = let h : Some r.value ≡ Some s.value = sym (at_first r rows) ∙ same r.key.0 ∙ there in cc in
    let over_it : AllBehind row_key r.key.0 ss = subst (λ (k : List ℕ). AllBehind row_key k ss) (sym keys) (first_before row_key s ss b) in
    let tails = one_list rows ss (tail_rises row_key r rows a) (tail_rises row_key s ss b) (λ key. behind (same_key key r.key.0) (at rows key) (at ss key) r.value s.value
    (same key ∙ ap (λ (k : List ℕ). cond (same_key key k) (Some s.value) (at ss key)) (sym keys))
    (λ e. let k : key ≡ r.key.0 = same_is key r.key.0 e in
    ap (at rows) k ∙ none_behind rows r.key.0 (first_before row_key r rows a) ∙ sym (none_behind ss r.key.0 over_it) ∙ ap (at ss) (sym k))) in
    λ i. record { key = record { 0 = keys i }; value = values i } ∷ tails i
