-- A reply is one line.
use Rattle.std.proofs.Common.{◌≡◌, ℕ, zero, suc, ◌+◌, ◌≤◌, ◌==◌, Bool, true, false, if◌then◌else◌, List, [], ◌∷◌, ◌++◌, length, take, refl, ◌∙◌, ap, arith}
use Rattle.serde_json.specs.Data.{Data}
use Rattle.cad_runs.specs.Commands.{Reply}
use Rattle.cad_answers.specs.Answer.{answer_line}
use Rattle.cad_serve.specs.Served.{answer_lines}
use Rattle.cad_serve.specs.Replied.{line_feeds}

abbrev more : Bool → ℕ → ℕ
more c n = if c then suc n else n

more_add : (c : Bool) (m n : ℕ) → more c (m + n) ≡ more c m + n
more_add true m n = omega arith
more_add false m n = refl

pub feeds_append : (xs ys : List ℕ) → line_feeds (xs ++ ys) ≡ line_feeds xs + line_feeds ys
feeds_append [] ys = omega arith
feeds_append (b ∷ xs) ys = ap (more (b == 10)) (feeds_append xs ys) ∙ more_add (b == 10) (line_feeds xs) (line_feeds ys)

at_most : (c : Bool) (m n : ℕ) → m ≤ n → more c m ≤ more c n
at_most true m n h = omega (arith, h)
at_most false m n h = h

pub feeds_front : (k : ℕ) (xs : List ℕ) → line_feeds (take k xs) ≤ line_feeds xs
feeds_front zero xs = omega arith
feeds_front (suc k) [] = omega arith
feeds_front (suc k) (b ∷ xs) = at_most (b == 10) (line_feeds (take k xs)) (line_feeds xs) (feeds_front k xs)

-- as many lines as answers
pub feeds_lines : ((a : Reply Data) → line_feeds (answer_line a) ≡ 1) → (answers : List (Reply Data)) → line_feeds (answer_lines answers) ≡ length answers
feeds_lines one [] = refl
feeds_lines one (a ∷ answers) = feeds_append (answer_line a) (answer_lines answers) ∙ omega (arith, one a, feeds_lines one answers)
