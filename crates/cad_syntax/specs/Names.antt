-- Names.
use Rattle.std.specs.Prelude.{ℕ, Bool, false, ◌&&◌, ◌||◌, ◌==◌, not, List, [], ◌∷◌, map}
use Rattle.std.specs.Char.{is_ascii_alphabetic, is_ascii_alphanumeric}
use Rattle.std.specs.Cmp.Lexicographic.{pointwise}
use Rattle.std.specs.List.{list_any, list_all}
use Rattle.cad_syntax.specs.Keywords.{keyword_spelling, keywords}

unfoldable pub is_keyword : List ℕ → Bool
is_keyword text = list_any (λ word. pointwise ◌==◌ word text) (map keyword_spelling keywords)

-- an ASCII letter or `_`
abbrev pub is_first_of_name : ℕ → Bool
is_first_of_name b = is_ascii_alphabetic b || (b == 95)

-- an ASCII letter, a digit or `_`
abbrev pub is_part_of_name : ℕ → Bool
is_part_of_name b = is_ascii_alphanumeric b || (b == 95)

-- a letter or `_`, and then letters, digits and `_`
abbrev pub is_word : List ℕ → Bool
is_word [] = false
is_word (b ∷ bs) = is_first_of_name b && list_all is_part_of_name bs

-- a word that is no keyword
abbrev pub is_name_text : List ℕ → Bool
is_name_text text = is_word text && not (is_keyword text)
