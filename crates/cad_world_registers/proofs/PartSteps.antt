-- What the code makes of known accounts, one by one.
use Rattle.std.proofs.Common.{◌≡◌, ◌<◌, ◌≤◌, ℕ, zero, suc, true, false, cond, List, [], ◌∷◌, ◌++◌, map, length, get_or, refl, sym, ap, ◌∙◌, arith}
use Rattle.std.proofs.lemmas.List.{map-append}
use Rattle.std.specs.Prelude.{slice_set}
use Rattle.cad_state.specs.declared.state.Known.{Known}
use Rattle.cad_world.specs.State.{Account}
use Rattle.cad_world_registers.specs.Code.PartDrafts.{KnownAccount, PartDraft, HasNone, HasNoneBefore, IsPlace, change_known, changed_one, has_address, known_of, on_known, put}
use Rattle.cad_world_registers.specs.Meaning.{item_at, changed_by}
use Rattle.cad_world_registers.specs.declared.saying.Change.{Change}
use Rattle.cad_world_registers.specs.declared.saying.Change.TheVariants as change

pub known_more : (all : List Known) (k : Known) → map known_of (all ++ k ∷ []) ≡ map known_of all ++ known_of k ∷ []
known_more all k = map-append known_of all (k ∷ [])

pub put_known : (n : ℕ) (c : Change) (d : PartDraft) → put (item_at n c) d ≡ on_known n (changed_by c) d
put_known n (change.Stored i v) d = refl
put_known n (change.Published p) d = refl
put_known n (change.Controlled c) d = refl

-- ---- where the account of an address stands

pub none_so_far : (n : ℕ) (all : List Known) (i : ℕ) (k : Known) → i < length all → k ≡ get_or all i k → has_address n k.index ≡ false → HasNoneBefore n all i → HasNoneBefore n all (suc i)
none_so_far n [] i k h is f none = tt
none_so_far n (x ∷ all) zero k h is f none = (ap (λ (y : Known). has_address n y.index) (sym is) ∙ f, tt)
none_so_far n (x ∷ all) (suc i) k h is f none = (none.0, none_so_far n all i k (omega (arith, h)) is f none.1)

pub stands_here : (n : ℕ) (all : List Known) (i : ℕ) (k : Known) → i < length all → k ≡ get_or all i k → has_address n k.index ≡ true → HasNoneBefore n all i → IsPlace n all i
stands_here n [] i k h is t none = absurd (omega (arith, h))
stands_here n (x ∷ all) zero k h is t none = ap (λ (y : Known). has_address n y.index) (sym is) ∙ t
stands_here n (x ∷ all) (suc i) k h is t none = (none.0, stands_here n all i k (omega (arith, h)) is t none.1)

pub stands_nowhere : (n : ℕ) (all : List Known) (i : ℕ) → length all ≤ i → HasNoneBefore n all i → HasNone n all
stands_nowhere n [] i h none = tt
stands_nowhere n (x ∷ all) zero h none = absurd (omega (arith, h))
stands_nowhere n (x ∷ all) (suc i) h none = (none.0, stands_nowhere n all i (omega (arith, h)) none.1)

pub place_inside : (n : ℕ) (all : List Known) (i : ℕ) → IsPlace n all i → i < length all
place_inside n [] i p = absurd p
place_inside n (x ∷ all) zero p = omega arith
place_inside n (x ∷ all) (suc i) p = let less = place_inside n all i p.1 in omega arith

-- ---- it changes

pub changed_place : (n : ℕ) (g : Account → Account) (all : List Known) (i : ℕ) (old new : Known) → IsPlace n all i → old ≡ get_or all i old → known_of new ≡ changed_one g (known_of old)
    → map known_of (slice_set all i new) ≡ change_known n g (map known_of all)
changed_place n g [] i old new p is e = absurd p
changed_place n g (k ∷ all) zero old new p is e =
    ap (λ (x : KnownAccount). x ∷ map known_of all) (e ∙ ap (λ (x : Known). changed_one g (known_of x)) is)
    ∙ ap (λ b. cond b (changed_one g (known_of k) ∷ map known_of all) (known_of k ∷ change_known n g (map known_of all))) (sym p)
changed_place n g (k ∷ all) (suc i) old new p is e =
    ap (λ (xs : List KnownAccount). known_of k ∷ xs) (changed_place n g all i old new p.1 is e)
    ∙ ap (λ b. cond b (changed_one g (known_of k) ∷ map known_of all) (known_of k ∷ change_known n g (map known_of all))) (sym p.0)

pub changed_none : (n : ℕ) (g : Account → Account) (all : List Known) → HasNone n all → map known_of all ≡ change_known n g (map known_of all)
changed_none n g [] none = refl
changed_none n g (k ∷ all) none =
    ap (λ (xs : List KnownAccount). known_of k ∷ xs) (changed_none n g all none.1)
    ∙ ap (λ b. cond b (changed_one g (known_of k) ∷ map known_of all) (known_of k ∷ change_known n g (map known_of all))) (sym none.0)
