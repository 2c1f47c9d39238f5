-- How often a label stands in a state: in a list of rows.
use Rattle.std.proofs.Common.{◌≡◌, ℕ, ◌+◌, ◌≤◌, List, [], ◌∷◌, map, Option, Some, None, refl, sym, ap, ◌∙◌, arith}
use Rattle.std.specs.Prelude.{sum_by}
use Rattle.std.proofs.lemmas.List.Sums.{sum_by-cons}
use Rattle.cad_world.specs.Labels.{found_in_frames, found_in_accounts, found_in_contracts, at, on_frame, on_account, on_contract, on_rows, with_node}
use Rattle.cad_world.specs.Marks.{marks, frame_marks, labels}
use Rattle.cad_world.specs.Rows.{NodeShape, Row, Found, either, found, changed}
use Rattle.cad_world.specs.State.{Account, Contract, Frame, State}
use Rattle.cad_labels.proofs.Marks.{mark, marks_mark, found_mark, gained, Counts, counts_either, some_is_there, nothing_marked, both_changed, found_counts, mark_changed}

-- ---- the rows of a state

abbrev pub frame_rows : List Frame → List Row
frame_rows [] = []
frame_rows (f ∷ fs) = f.variables ∷ f.before ∷ f.result ∷ frame_rows fs

abbrev pub account_rows : List Account → List Row
account_rows [] = []
account_rows (a ∷ all) = a.stored ∷ account_rows all

abbrev pub contract_rows : List Contract → List Row
contract_rows [] = []
contract_rows (c ∷ all) = c.value ∷ contract_rows all

abbrev pub total : ℕ → List Row → ℕ
total p [] = 0
total p (r ∷ rs) = mark p r + total p rs

-- in all rows
abbrev pub whole : ℕ → State → ℕ
whole p s = total p (frame_rows s.frames) + (mark p s.making + (total p (account_rows s.accounts) + total p (contract_rows s.contracts)))

frames_total : (p : ℕ) (fs : List Frame) → sum_by (frame_marks p) fs ≡ total p (frame_rows fs)
frames_total p [] = refl
frames_total p (f ∷ fs) = omega (arith, sum_by-cons (frame_marks p) f fs, frames_total p fs, marks_mark p f.variables, marks_mark p f.before, marks_mark p f.result)

accounts_total : (p : ℕ) (all : List Account) → sum_by (λ (a : Account). marks p a.stored) all ≡ total p (account_rows all)
accounts_total p [] = refl
accounts_total p (a ∷ all) = omega (arith, sum_by-cons (λ (b : Account). marks p b.stored) a all, accounts_total p all, marks_mark p a.stored)

contracts_total : (p : ℕ) (all : List Contract) → sum_by (λ (c : Contract). marks p c.value) all ≡ total p (contract_rows all)
contracts_total p [] = refl
contracts_total p (c ∷ all) = omega (arith, sum_by-cons (λ (d : Contract). marks p d.value) c all, contracts_total p all, marks_mark p c.value)

pub labels_whole : (p : ℕ) (s : State) → labels p s ≡ whole p s
labels_whole p s = omega (arith, frames_total p s.frames, marks_mark p s.making, accounts_total p s.accounts, contracts_total p s.contracts)

-- ---- the node with a label

abbrev found_rows : ℕ → List Row → Option Found
found_rows p [] = None
found_rows p (r ∷ rs) = either (found p r) (found_rows p rs)

frames_found : (p : ℕ) (fs : List Frame) → found_in_frames p fs ≡ found_rows p (frame_rows fs)
frames_found p [] = refl
frames_found p (f ∷ fs) = ap (λ o. either (found p f.variables) (either (found p f.before) (either (found p f.result) o))) (frames_found p fs)

accounts_found : (p : ℕ) (all : List Account) → found_in_accounts p all ≡ found_rows p (account_rows all)
accounts_found p [] = refl
accounts_found p (a ∷ all) = ap (either (found p a.stored)) (accounts_found p all)

contracts_found : (p : ℕ) (all : List Contract) → found_in_contracts p all ≡ found_rows p (contract_rows all)
contracts_found p [] = refl
contracts_found p (c ∷ all) = ap (either (found p c.value)) (contracts_found p all)

abbrev found_whole : ℕ → State → Option Found
found_whole p s = either (found_rows p (frame_rows s.frames)) (either (found p s.making) (either (found_rows p (account_rows s.accounts)) (found_rows p (contract_rows s.contracts))))

pub at_whole : (p : ℕ) (s : State) → at p s ≡ found_whole p s
at_whole p s = λ i. either (frames_found p s.frames i) (either (found p s.making) (either (accounts_found p s.accounts i) (contracts_found p s.contracts i)))

rows_count : (p : ℕ) (rs : List Row) → Counts (total p rs) (found_rows p rs)
rows_count p [] = tt
rows_count p (r ∷ rs) = counts_either (mark p r) (total p rs) (found p r) (found_rows p rs) (found_counts p r) (rows_count p rs)

-- ---- the node with the label is changed

frames_map : (g : Row → Row) (fs : List Frame) → frame_rows (map (on_frame g) fs) ≡ map g (frame_rows fs)
frames_map g [] = refl
frames_map g (f ∷ fs) = ap (λ rs. g f.variables ∷ g f.before ∷ g f.result ∷ rs) (frames_map g fs)

accounts_map : (g : Row → Row) (all : List Account) → account_rows (map (on_account g) all) ≡ map g (account_rows all)
accounts_map g [] = refl
accounts_map g (a ∷ all) = ap (λ rs. g a.stored ∷ rs) (accounts_map g all)

contracts_map : (g : Row → Row) (all : List Contract) → contract_rows (map (on_contract g) all) ≡ map g (contract_rows all)
contracts_map g [] = refl
contracts_map g (c ∷ all) = ap (λ rs. g c.value ∷ rs) (contracts_map g all)

rows_changed : (p q : ℕ) (sh : NodeShape) (k : Row) (rs : List Row) → total p rs ≤ 1
    → total q (map (changed p sh k) rs) + found_mark q (found_rows p rs) ≡ total q rs + gained q k (found_rows p rs)
rows_changed p q sh k [] h = omega arith
rows_changed p q sh k (r ∷ rs) h = both_changed q (mark p r) (total p rs) (mark q r) (mark q (changed p sh k r)) (total q rs) (total q (map (changed p sh k) rs)) k
    (found p r) (found_rows p rs) h (found_counts p r) (rows_count p rs) (mark_changed p q sh k r (omega (arith, h))) (rows_changed p q sh k rs (omega (arith, h)))

mapped_whole : (q : ℕ) (g : Row → Row) (s : State)
    → whole q (on_rows g s) ≡ total q (map g (frame_rows s.frames)) + (mark q (g s.making) + (total q (map g (account_rows s.accounts)) + total q (map g (contract_rows s.contracts))))
mapped_whole q g s = λ i. total q (frames_map g s.frames i) + (mark q (g s.making) + (total q (accounts_map g s.accounts i) + total q (contracts_map g s.contracts i)))

-- its parts go and others come
pub node_changed : (p q : ℕ) (sh : NodeShape) (k : Row) (s : State) → whole p s ≤ 1
    → whole q (with_node p sh k s) + found_mark q (at p s) ≡ whole q s + gained q k (at p s)
node_changed p q sh k s h = omega (
  arith,
  mapped_whole q (changed p sh k) s,
  ap (found_mark q) (at_whole p s),
  ap (gained q k) (at_whole p s),
  both_changed q (total p (frame_rows s.frames)) (mark p s.making + (total p (account_rows s.accounts) + total p (contract_rows s.contracts)))
      (total q (frame_rows s.frames)) (total q (map (changed p sh k) (frame_rows s.frames)))
      (mark q s.making + (total q (account_rows s.accounts) + total q (contract_rows s.contracts)))
      (mark q (changed p sh k s.making) + (total q (map (changed p sh k) (account_rows s.accounts)) + total q (map (changed p sh k) (contract_rows s.contracts)))) k
      (found_rows p (frame_rows s.frames)) (either (found p s.making) (either (found_rows p (account_rows s.accounts)) (found_rows p (contract_rows s.contracts)))) h
      (rows_count p (frame_rows s.frames))
      (counts_either (mark p s.making) (total p (account_rows s.accounts) + total p (contract_rows s.contracts)) (found p s.making) (either (found_rows p (account_rows s.accounts)) (found_rows p (contract_rows s.contracts)))
      (found_counts p s.making) (counts_either (total p (account_rows s.accounts)) (total p (contract_rows s.contracts)) (found_rows p (account_rows s.accounts)) (found_rows p (contract_rows s.contracts)) (rows_count p (account_rows s.accounts)) (rows_count p (contract_rows s.contracts))))
      (rows_changed p q sh k (frame_rows s.frames) (omega (arith, h)))
      (both_changed q (mark p s.making) (total p (account_rows s.accounts) + total p (contract_rows s.contracts))
      (mark q s.making) (mark q (changed p sh k s.making)) (total q (account_rows s.accounts) + total q (contract_rows s.contracts))
      (total q (map (changed p sh k) (account_rows s.accounts)) + total q (map (changed p sh k) (contract_rows s.contracts))) k
      (found p s.making) (either (found_rows p (account_rows s.accounts)) (found_rows p (contract_rows s.contracts))) (omega (arith, h)) (found_counts p s.making)
      (counts_either (total p (account_rows s.accounts)) (total p (contract_rows s.contracts)) (found_rows p (account_rows s.accounts)) (found_rows p (contract_rows s.contracts)) (rows_count p (account_rows s.accounts)) (rows_count p (contract_rows s.contracts)))
      (mark_changed p q sh k s.making (omega (arith, h)))
      (both_changed q (total p (account_rows s.accounts)) (total p (contract_rows s.contracts)) (total q (account_rows s.accounts)) (total q (map (changed p sh k) (account_rows s.accounts)))
      (total q (contract_rows s.contracts)) (total q (map (changed p sh k) (contract_rows s.contracts))) k (found_rows p (account_rows s.accounts)) (found_rows p (contract_rows s.contracts)) (omega (arith, h))
      (rows_count p (account_rows s.accounts)) (rows_count p (contract_rows s.contracts)) (rows_changed p q sh k (account_rows s.accounts) (omega (arith, h))) (rows_changed p q sh k (contract_rows s.contracts) (omega (arith, h))))),
)

-- ---- a label that stands nowhere

either_none : (a b : Option Found) → either a b ≡ None → (a ≡ None) × (b ≡ None)
either_none None b h = (refl, h)
either_none (Some f) b h = absurd (some_is_there f h)

rows_marked : (p : ℕ) (rs : List Row) → found_rows p rs ≡ None → total p rs ≡ 0
rows_marked p [] h = refl
rows_marked p (r ∷ rs) h = omega (arith, nothing_marked p r (either_none (found p r) (found_rows p rs) h).0, rows_marked p rs (either_none (found p r) (found_rows p rs) h).1)

-- no node is found by it
pub nowhere_marked : (p : ℕ) (s : State) → at p s ≡ None → labels p s ≡ 0
nowhere_marked p s h =
    let a = either_none (found_rows p (frame_rows s.frames)) (either (found p s.making) (either (found_rows p (account_rows s.accounts)) (found_rows p (contract_rows s.contracts)))) (sym (at_whole p s) ∙ h) in
    let b = either_none (found p s.making) (either (found_rows p (account_rows s.accounts)) (found_rows p (contract_rows s.contracts))) a.1 in
    let c = either_none (found_rows p (account_rows s.accounts)) (found_rows p (contract_rows s.contracts)) b.1 in
    omega (
      arith,
      labels_whole p s,
      rows_marked p (frame_rows s.frames) a.0,
      nothing_marked p s.making b.0,
      rows_marked p (account_rows s.accounts) c.0,
      rows_marked p (contract_rows s.contracts) c.1,
    )

none_counted : (o : Option Found) (n : ℕ) → n ≡ 0 → Counts n o → o ≡ None
none_counted None n e h = refl
none_counted (Some f) n e h = absurd (omega (arith, e, h))

pub whole_counts : (p : ℕ) (s : State) → Counts (whole p s) (found_whole p s)
whole_counts p s = counts_either (total p (frame_rows s.frames)) (mark p s.making + (total p (account_rows s.accounts) + total p (contract_rows s.contracts)))
    (found_rows p (frame_rows s.frames)) (either (found p s.making) (either (found_rows p (account_rows s.accounts)) (found_rows p (contract_rows s.contracts))))
    (rows_count p (frame_rows s.frames))
    (counts_either (mark p s.making) (total p (account_rows s.accounts) + total p (contract_rows s.contracts)) (found p s.making) (either (found_rows p (account_rows s.accounts)) (found_rows p (contract_rows s.contracts)))
    (found_counts p s.making) (counts_either (total p (account_rows s.accounts)) (total p (contract_rows s.contracts)) (found_rows p (account_rows s.accounts)) (found_rows p (contract_rows s.contracts)) (rows_count p (account_rows s.accounts)) (rows_count p (contract_rows s.contracts))))

-- and the other way
pub unmarked_nowhere : (p : ℕ) (s : State) → labels p s ≡ 0 → at p s ≡ None
unmarked_nowhere p s h = at_whole p s ∙ none_counted (found_whole p s) (whole p s) (omega (arith, labels_whole p s, h)) (whole_counts p s)
