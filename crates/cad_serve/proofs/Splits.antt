-- The lines of an input that grows.
use Rattle.std.proofs.Common.{◌≡◌, ℕ, Bool, true, false, ◌==◌, if◌then◌else◌, List, [], ◌∷◌, ◌++◌, refl, sym, ◌∙◌, ap, append_assoc}
use Rattle.std.proofs.lemmas.List.{append-nil}
use Rattle.cad_serve_parts.specs.Lines.{lines, before_first_line}

abbrev IsSome : List (List ℕ) → Type 0
IsSome [] = ⊥
IsSome (l ∷ ls) = Unit {0}

abbrev line_by : Bool → ℕ → List (List ℕ) → List (List ℕ)
line_by c x ls = if c then [] ∷ ls else before_first_line x ls

by_is_some : (c : Bool) (x : ℕ) (ls : List (List ℕ)) → IsSome (line_by c x ls)
by_is_some true x ls = tt
by_is_some false x [] = tt
by_is_some false x (l ∷ ls) = tt

-- there is always a line
lines_some : (xs : List ℕ) → IsSome (lines xs)
lines_some [] = tt
lines_some (x ∷ xs) = by_is_some (x == 10) x (lines xs)

-- a byte at the end of the last line
abbrev add_last : ℕ → List (List ℕ) → List (List ℕ)
add_last b [] = (b ∷ []) ∷ []
add_last b (l ∷ []) = (l ++ b ∷ []) ∷ []
add_last b (l ∷ m ∷ ls) = l ∷ add_last b (m ∷ ls)

add_by : (c : Bool) (x b : ℕ) (ls : List (List ℕ)) → IsSome ls → line_by c x (add_last b ls) ≡ add_last b (line_by c x ls)
add_by c x b [] h = elim h [ ]
add_by true x b (l ∷ ls) h = refl
add_by false x b (l ∷ []) h = refl
add_by false x b (l ∷ m ∷ ls) h = refl

lines_add : (b : ℕ) → (b == 10) ≡ false → (xs : List ℕ) → lines (xs ++ b ∷ []) ≡ add_last b (lines xs)
lines_add b other [] = ap (λ c. line_by c b ([] ∷ [])) other
lines_add b other (x ∷ xs) = ap (line_by (x == 10) x) (lines_add b other xs) ∙ add_by (x == 10) x b (lines xs) (lines_some xs)

add_is : (b : ℕ) (whole : List (List ℕ)) (last : List ℕ) → add_last b (whole ++ last ∷ []) ≡ whole ++ (last ++ b ∷ []) ∷ []
add_is b [] last = refl
add_is b (w ∷ []) last = refl
add_is b (w ∷ v ∷ ws) last = ap (λ ls. w ∷ ls) (add_is b (v ∷ ws) last)

-- a byte that is no line feed goes to the last line
pub lines_byte : (b : ℕ) → (b == 10) ≡ false → (xs : List ℕ) (whole : List (List ℕ)) (last : List ℕ) → lines xs ≡ whole ++ last ∷ [] → lines (xs ++ b ∷ []) ≡ whole ++ (last ++ b ∷ []) ∷ []
lines_byte b other xs whole last is = lines_add b other xs ∙ ap (add_last b) is ∙ add_is b whole last

end_by : (c : Bool) (x : ℕ) (ls : List (List ℕ)) → IsSome ls → line_by c x (ls ++ [] ∷ []) ≡ line_by c x ls ++ [] ∷ []
end_by c x [] h = elim h [ ]
end_by true x (l ∷ ls) h = refl
end_by false x (l ∷ ls) h = refl

-- a line feed begins a line
pub lines_feed : (b : ℕ) → (b == 10) ≡ true → (xs : List ℕ) → lines (xs ++ b ∷ []) ≡ lines xs ++ [] ∷ []
lines_feed b feed [] = ap (λ c. line_by c b ([] ∷ [])) feed
lines_feed b feed (x ∷ xs) = ap (line_by (x == 10) x) (lines_feed b feed xs) ∙ end_by (x == 10) x (lines xs) (lines_some xs)

-- the lines that begin with a line that goes on
abbrev pub onto : List ℕ → List ℕ → List (List ℕ)
onto last [] = last ∷ []
onto last (b ∷ ys) = if b == 10 then last ∷ onto [] ys else onto (last ++ b ∷ []) ys

onto_by : (b : ℕ) (ys xs : List ℕ) (whole : List (List ℕ)) (last : List ℕ)
    → ((b == 10) ≡ true → lines ((xs ++ b ∷ []) ++ ys) ≡ (whole ++ last ∷ []) ++ onto [] ys)
    → ((b == 10) ≡ false → lines ((xs ++ b ∷ []) ++ ys) ≡ whole ++ onto (last ++ b ∷ []) ys)
    → (c : Bool) → (b == 10) ≡ c → lines ((xs ++ b ∷ []) ++ ys) ≡ whole ++ (if b == 10 then last ∷ onto [] ys else onto (last ++ b ∷ []) ys)
onto_by b ys xs whole last at_feed at_other true e =
    at_feed e ∙ append_assoc whole (last ∷ []) (onto [] ys) ∙ sym (ap (λ c. whole ++ (if c then last ∷ onto [] ys else onto (last ++ b ∷ []) ys)) e)
onto_by b ys xs whole last at_feed at_other false e =
    at_other e ∙ sym (ap (λ c. whole ++ (if c then last ∷ onto [] ys else onto (last ++ b ∷ []) ys)) e)

pub lines_onto : (ys xs : List ℕ) (whole : List (List ℕ)) (last : List ℕ) → lines xs ≡ whole ++ last ∷ [] → lines (xs ++ ys) ≡ whole ++ onto last ys
lines_onto [] xs whole last is = ap lines (append-nil xs) ∙ is
lines_onto (b ∷ ys) xs whole last is = ap lines (sym (append_assoc xs (b ∷ []) ys)) ∙ onto_by b ys xs whole last
    (λ e. lines_onto ys (xs ++ b ∷ []) (whole ++ last ∷ []) [] (lines_feed b e xs ∙ ap (λ ls. ls ++ [] ∷ []) is))
    (λ e. lines_onto ys (xs ++ b ∷ []) whole (last ++ b ∷ []) (lines_byte b e xs whole last is))
    (b == 10) refl
