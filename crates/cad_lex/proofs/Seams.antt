-- A text may be cut at its ASCII bytes.
use Rattle.std.proofs.Common.{◌≡◌, ℕ, ◌+◌, ◌<◌, List, [], ◌∷◌, ◌++◌, length, get_or, IsUtf8, refl, ap, subst, arith, length-append}
use Rattle.std.proofs.Math.Seq.{get_or-append_seam, take-append_seam, drop-append_seam, drop-append-add}
use Rattle.std.proofs.lemmas.Str.{IsUtf8-take, IsUtf8-drop, IsCharBoundary-before_ascii, IsCharBoundary-after_ascii}

within : (front : List ℕ) (b : ℕ) (rest : List ℕ) → length front < length (front ++ b ∷ rest)
within front b rest = omega (arith, length-append front (b ∷ rest))

low_at : (front : List ℕ) (b : ℕ) (rest : List ℕ) → b < 128 → get_or (front ++ b ∷ rest) (length front) 0 < 128
low_at front b rest low = rw (get_or-append_seam front b rest 0) low

pub utf8_before : (front : List ℕ) (b : ℕ) (rest : List ℕ) → b < 128 → IsUtf8 (front ++ b ∷ rest) → IsUtf8 front
utf8_before front b rest low u =
    subst IsUtf8 (take-append_seam front (b ∷ rest)) (IsUtf8-take _ (length front) u (IsCharBoundary-before_ascii _ (length front) (within front b rest) (low_at front b rest low)))

pub utf8_from : (front : List ℕ) (b : ℕ) (rest : List ℕ) → b < 128 → IsUtf8 (front ++ b ∷ rest) → IsUtf8 (b ∷ rest)
utf8_from front b rest low u =
    subst IsUtf8 (drop-append_seam front (b ∷ rest)) (IsUtf8-drop _ (length front) u (IsCharBoundary-before_ascii _ (length front) (within front b rest) (low_at front b rest low)))

pub utf8_behind : (front : List ℕ) (b : ℕ) (rest : List ℕ) → b < 128 → IsUtf8 (front ++ b ∷ rest) → IsUtf8 rest
utf8_behind front b rest low u =
    subst IsUtf8 (drop-append-add front (b ∷ rest) 1) (IsUtf8-drop _ (length front + 1) u (IsCharBoundary-after_ascii _ (length front) u (within front b rest) (low_at front b rest low)))

-- the text ends before rest with an ASCII byte
pub record Seam (text rest : List ℕ) : Type 0 where
  pub front : List ℕ
  pub byte : ℕ
  pub low : byte < 128
  pub joined : text ≡ front ++ byte ∷ rest

pub behind_seam : (text rest : List ℕ) → IsUtf8 text → Seam text rest → IsUtf8 rest
behind_seam text rest u s = utf8_behind s.front s.byte rest s.low (subst IsUtf8 s.joined u)

pub seam_first : (b : ℕ) (rest : List ℕ) → b < 128 → Seam (b ∷ rest) rest
seam_first b rest low = record { front = []; byte = b; low = low; joined = refl }

pub seam_later : {b : ℕ} {text rest : List ℕ} → Seam text rest → Seam (b ∷ text) rest
seam_later {b} s = record { front = b ∷ s.front; byte = s.byte; low = s.low; joined = ap (λ l. b ∷ l) s.joined }

pub seam_behind : {text rest : List ℕ} (front : List ℕ) → Seam text rest → Seam (front ++ text) rest
seam_behind [] s = s
seam_behind (b ∷ front) s = seam_later (seam_behind front s)
