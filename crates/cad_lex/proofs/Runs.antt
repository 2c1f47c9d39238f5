-- The bytes at the front that pass a test, and those behind.
use Rattle.std.proofs.Common.{◌≡◌, ℕ, zero, ◌-◌, ◌≤◌, ◌<◌, suc, Bool, true, false, if◌then◌else◌, List, [], ◌∷◌, ◌++◌, length, take, get_or, IsUtf8, IsAscii, refl, ap, ◌∙◌, subst, append-nil, arith}
use Rattle.std.proofs.lemmas.Str.{IsUtf8-from_ascii}
use Rattle.std.proofs.lemmas.Bool.Decides.{nat_tests}
use Rattle.cad_grammar.specs.Lexes.{Front, none, more}
use Rattle.cad_syntax.specs.Names.{is_part_of_name}
use Rattle.cad_lex.specs.Code.Reading.{front, behind}
use Rattle.cad_lex.proofs.Seams.{utf8_before}

module _ (test : ℕ → Bool) where
  pub length_behind : (bytes : List ℕ) → length (behind test bytes) ≤ length bytes
  unfolding behind
  length_behind [] = omega arith
  length_behind (b ∷ bytes) = elim (test b) as (λ v. length (if v then behind test bytes else b ∷ bytes) ≤ length (b ∷ bytes)) [ true ↦ omega (arith, length_behind bytes) | false ↦ omega arith ]

  pub take_behind : (bytes : List ℕ) → take (length bytes - length (behind test bytes)) bytes ≡ front test bytes
  unfolding front behind
  take_behind [] = refl
  take_behind (b ∷ bytes) =
      let le = length_behind bytes in
      elim (test b) as (λ v. take (length (b ∷ bytes) - length (if v then behind test bytes else b ∷ bytes)) (b ∷ bytes) ≡ (if v then b ∷ front test bytes else [])) [
        | true ↦ let e : length (b ∷ bytes) - length (behind test bytes) ≡ suc (length bytes - length (behind test bytes)) = omega arith in rw e (ap (λ l. b ∷ l) (take_behind bytes))
        | false ↦ let e : length (b ∷ bytes) - length (b ∷ bytes) ≡ 0 = omega arith in rw e
      ]

  pub front_goes : (b : ℕ) (bytes : List ℕ) → test b ≡ true → front test (b ∷ bytes) ≡ b ∷ front test bytes
  unfolding front
  front_goes b bytes e = ap (λ v. if v then b ∷ front test bytes else []) e

  pub behind_goes : (b : ℕ) (bytes : List ℕ) → test b ≡ true → behind test (b ∷ bytes) ≡ behind test bytes
  unfolding behind
  behind_goes b bytes e = ap (λ v. if v then behind test bytes else b ∷ bytes) e

  pub front_stops : (b : ℕ) (bytes : List ℕ) → test b ≡ false → front test (b ∷ bytes) ≡ []
  unfolding front
  front_stops b bytes e = ap (λ v. if v then b ∷ front test bytes else []) e

  pub behind_stops : (b : ℕ) (bytes : List ℕ) → test b ≡ false → behind test (b ∷ bytes) ≡ b ∷ bytes
  unfolding behind
  behind_stops b bytes e = ap (λ v. if v then behind test bytes else b ∷ bytes) e

  -- the front is one
  pub front_of : (bytes : List ℕ) → Front test bytes (front test bytes) (behind test bytes)
  unfolding front behind
  front_of [] = none
  front_of (b ∷ bytes) = front_by b bytes (front_of bytes) (test b) refl
    where
      front_by : (b : ℕ) (bytes : List ℕ) → Front test bytes (front test bytes) (behind test bytes) → (v : Bool) → test b ≡ v
          → Front test (b ∷ bytes) (if v then b ∷ front test bytes else []) (if v then behind test bytes else b ∷ bytes)
      front_by b bytes d true e = more e d
      front_by b bytes d false e = none

  -- and the longest
  pub behind_shortest : {text some rest : List ℕ} → Front test text some rest → length (behind test text) ≤ length rest
  behind_shortest (none {text}) = length_behind text
  behind_shortest (more {b} {text} e d) = omega (arith, behind_shortest d, ap length (behind_goes b text e))

  -- a front before what fails is the front
  pub front_exact : {text some rest : List ℕ} → Front test text some rest → front test rest ≡ [] → behind test rest ≡ rest → (front test text ≡ some) × (behind test text ≡ rest)
  front_exact none f g = (f, g)
  front_exact (more {b} {text} e d) f g =
      let w = front_exact d f g in
      (front_goes b text e ∙ ap (λ l. b ∷ l) w.0, behind_goes b text e ∙ w.1)

  pub ends_empty : (front test [] ≡ []) × (behind test [] ≡ [])
  unfolding front behind
  ends_empty = (refl, refl)

  none_by : (b : ℕ) (bytes : List ℕ) → length (b ∷ bytes) ≤ length (behind test (b ∷ bytes)) → (v : Bool) → test b ≡ v
      → (front test (b ∷ bytes) ≡ []) × (behind test (b ∷ bytes) ≡ b ∷ bytes)
  none_by b bytes le true e = absurd (omega (arith, length_behind bytes, ap length (behind_goes b bytes e)))
  none_by b bytes le false e = (front_stops b bytes e, behind_stops b bytes e)

  none_longest : (text : List ℕ) → length text ≤ length (behind test text) → (front test text ≡ []) × (behind test text ≡ text)
  none_longest [] le = ends_empty
  none_longest (b ∷ bytes) le = none_by b bytes le (test b) refl

  pub longest_front : {text some rest : List ℕ} → Front test text some rest → length rest ≤ length (behind test text) → (front test text ≡ some) × (behind test text ≡ rest)
  longest_front (none {text}) le = none_longest text le
  longest_front (more {b} {text} e d) le =
      let w = longest_front d (omega (arith, le, ap length (behind_goes b text e))) in
      (front_goes b text e ∙ ap (λ l. b ∷ l) w.0, behind_goes b text e ∙ w.1)

  pub front_and_behind : (bytes : List ℕ) → bytes ≡ front test bytes ++ behind test bytes
  unfolding front behind
  front_and_behind [] = refl
  front_and_behind (b ∷ bytes) =
      elim (test b) as (λ v. b ∷ bytes ≡ (if v then b ∷ front test bytes else []) ++ (if v then behind test bytes else b ∷ bytes)) [
        | true ↦ ap (λ l. b ∷ l) (front_and_behind bytes)
        | false ↦ refl
      ]

  -- what comes behind them fails
  pub behind_fails : (bytes : List ℕ) (b : ℕ) (rest : List ℕ) → behind test bytes ≡ b ∷ rest → test b ≡ false
  unfolding behind
  behind_fails [] b rest e = let never : ⊥ = cc in absurd never
  behind_fails (a ∷ bytes) b rest e = by_test (behind_fails bytes b rest) (test a) refl e
    where
      by_test : (behind test bytes ≡ b ∷ rest → test b ≡ false) → (v : Bool) → test a ≡ v → (if v then behind test bytes else a ∷ bytes) ≡ b ∷ rest → test b ≡ false
      by_test later true t e = later e
      by_test later false t e = let same : a ≡ b = cc in subst (λ x. test x ≡ false) same t

  -- where what fails is ASCII, the front of a text is a text
  pub front_is_utf8 : ((b : ℕ) → test b ≡ false → b < 128) → (bytes : List ℕ) → IsUtf8 bytes → IsUtf8 (front test bytes)
  front_is_utf8 low bytes u = by_rest (behind test bytes) refl
    where
      by_rest : (l : List ℕ) → behind test bytes ≡ l → IsUtf8 (front test bytes)
      by_rest [] e = subst IsUtf8 (front_and_behind bytes ∙ ap (λ l. front test bytes ++ l) e ∙ append-nil (front test bytes)) u
      by_rest (b ∷ rest) e = utf8_before (front test bytes) b rest (low b (behind_fails bytes b rest e)) (subst IsUtf8 (front_and_behind bytes ∙ ap (λ l. front test bytes ++ l) e) u)

part_is_ascii : (b : ℕ) → is_part_of_name b ≡ true → b < 128
part_is_ascii b h = grind (arith, nat_tests)

ascii_by : (b : ℕ) (bytes : List ℕ) → IsAscii bytes → (v : Bool) → is_part_of_name b ≡ v → (i : ℕ) → get_or (if v then b ∷ bytes else []) i 0 < 128
ascii_by b bytes h true e zero = part_is_ascii b e
ascii_by b bytes h true e (suc i) = h i
ascii_by b bytes h false e i = omega arith

front_is_ascii : (bytes : List ℕ) → IsAscii (front is_part_of_name bytes)
unfolding front
front_is_ascii [] i = omega arith
front_is_ascii (b ∷ bytes) i = ascii_by b _ (front_is_ascii bytes) (is_part_of_name b) refl i

-- a word is text
pub word_is_utf8 : (bytes : List ℕ) → IsUtf8 (front is_part_of_name bytes)
word_is_utf8 bytes = IsUtf8-from_ascii _ (front_is_ascii bytes)
