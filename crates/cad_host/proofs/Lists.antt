-- Lists that agree in a part, and a list after a write.
use Rattle.std.proofs.Common.{◌≡◌, ◌⊎◌, inl, inr, ⊎_elim, ℕ, zero, suc, ◌+◌, ◌-◌, ◌<◌, ◌≤◌, min, List, [], ◌∷◌, ◌++◌, length, get_or, take, drop, refl, sym, ◌∙◌, ap, arith, append_assoc, length-append, length-take, length-drop, take-append-drop}
use Rattle.std.proofs.lemmas.List.{get_or-take, get_or-drop, drop_more, drop_all, take_min, get_or_append_left, get_or-append_right}
use Rattle.std.proofs.lemmas.Bool.{cases_lt}
use Rattle.std.proofs.lemmas.Grind.{same_number_lists}
use Rattle.cad_host.specs.Disk.{overwritten}

-- lists that agree below a place have the same front
pub same_front : (k : ℕ) (c r : List ℕ) → k ≤ length c → k ≤ length r → ((i : ℕ) → i < k → get_or c i 0 ≡ get_or r i 0) → take k c ≡ take k r
same_front zero c r in_c in_r same = refl
same_front (suc k) [] r in_c in_r same = absurd (omega arith)
same_front (suc k) (x ∷ c) [] in_c in_r same = absurd (omega arith)
same_front (suc k) (x ∷ c) (y ∷ r) in_c in_r same =
    λ i. (same 0 (omega arith)) i ∷ (same_front k c r (omega arith) (omega arith) (λ n below. same (suc n) (omega arith))) i

-- and those that agree from it on have the same back
pub same_back : (k : ℕ) (c r : List ℕ) → length c ≡ length r → ((i : ℕ) → k ≤ i → i < length r → get_or c i 0 ≡ get_or r i 0) → drop k c ≡ drop k r
same_back zero c r long same = same_number_lists c r long (λ n below. same n (omega arith) (omega (arith, long)))
same_back (suc k) [] [] long same = refl
same_back (suc k) (x ∷ c) [] long same = absurd (omega arith)
same_back (suc k) [] (y ∷ r) long same = absurd (omega arith)
same_back (suc k) (x ∷ c) (y ∷ r) long same = same_back k c r (omega arith) (λ n from below. same (suc n) (omega arith) (omega arith))

-- a list is its front, one more and the rest
pub parts : (n : ℕ) (c front tail : List ℕ) → n < length c → take n c ≡ front → drop (n + 1) c ≡ tail → c ≡ front ++ get_or c n 0 ∷ tail
parts n c front tail inside is_front is_tail =
    sym (take-append-drop n c) ∙ ap (λ (l : List ℕ). l ++ drop n c) is_front ∙ ap (λ (l : List ℕ). front ++ l) (drop_more c n 0 inside ∙ ap (λ (l : List ℕ). get_or c n 0 ∷ l) is_tail)

pub drop_past : (xs ys : List ℕ) (m k : ℕ) → m ≡ length xs + k → drop m (xs ++ ys) ≡ drop k ys
drop_past [] ys m k is = ap (λ (j : ℕ). drop j ys) (let same : m ≡ k = omega arith in same)
drop_past (x ∷ xs) ys zero k is = absurd (omega arith)
drop_past (x ∷ xs) ys (suc m) k is = drop_past xs ys m k (omega arith)

pub length_over : (old new : List ℕ) (at : ℕ) → length (overwritten old at new) ≡ min at (length old) + length new + (length old - (at + length new))
length_over old new at = omega (arith, length-append (take at old ++ new) (drop (at + length new) old), length-append (take at old) new, length-take at old, length-drop (at + length new) old)

-- a write makes a tape no shorter
pub long_over : (old bytes : List ℕ) (at : ℕ) → length old ≤ length (overwritten old at bytes)
long_over old bytes at = omega (arith, length_over old bytes at)

-- a write changes nothing outside its range
pub get_or_over : (l b : List ℕ) (at i : ℕ) → i < length l → (i < at) ⊎ (at + length b ≤ i) → get_or (overwritten l at b) i 0 ≡ get_or l i 0
get_or_over l b at i inside (inl before) =
    ap (λ (k : List ℕ). get_or k i 0) (append_assoc (take at l) b (drop (at + length b) l))
    ∙ get_or_append_left (take at l) (b ++ drop (at + length b) l) 0 i (omega (arith, length-take at l, inside, before))
    ∙ get_or-take at l i 0 before
get_or_over l b at i inside (inr behind) =
    let long : length (take at l ++ b) ≡ at + length b = omega (arith, length-append (take at l) b, length-take at l, inside, behind) in
    get_or-append_right (take at l ++ b) (drop (at + length b) l) (at + length b) i 0 long behind
    ∙ get_or-drop (at + length b) l (i - (at + length b)) 0
    ∙ ap (λ (k : ℕ). get_or l k 0) (omega (arith, behind))

-- and puts its bytes there
pub get_or_within : (l b : List ℕ) (at i : ℕ) → at ≤ length l → at ≤ i → i < at + length b → get_or (overwritten l at b) i 0 ≡ get_or b (i - at) 0
get_or_within l b at i inside from below =
    ap (λ (k : List ℕ). get_or k i 0) (append_assoc (take at l) b (drop (at + length b) l))
    ∙ get_or-append_right (take at l) (b ++ drop (at + length b) l) at i 0 (omega (arith, length-take at l, inside)) from
    ∙ get_or_append_left b (drop (at + length b) l) 0 (i - at) (omega (arith, from, below))

-- a write past the end is one at the end
pub over_past : (l b : List ℕ) (at : ℕ) → overwritten l at b ≡ overwritten l (min at (length l)) b
over_past l b at = ⊎_elim
    (λ below. ap (λ (k : ℕ). overwritten l k b) (let same : at ≡ min at (length l) = omega (arith, below) in same))
    (λ past. let front : take at l ≡ take (min at (length l)) l = sym (take_min at l) in
    let back : drop (at + length b) l ≡ drop (min at (length l) + length b) l = drop_all (at + length b) l (omega (arith, past)) ∙ sym (drop_all (min at (length l) + length b) l (omega (arith, past))) in
    (λ i. front i ++ b ++ back i))
    (cases_lt at (length l))
