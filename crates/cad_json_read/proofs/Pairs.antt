-- Objects of two members, as the entries of a map.
use Rattle.std.proofs.Common.{◌≡◌, ◌≢◌, ◌-◌, ℕ, zero, suc, Bool, true, false, not, List, [], ◌∷◌, length, Option, Some, None, refl, sym, ap, ◌∙◌, arith, String, Global, string_bytes}
use Rattle.std.specs.Prelude.{slice_get, ◌&&◌}
use Rattle.serde_json.specs.Data.{Data}
use Rattle.serde_json.specs.View.{view, members_view}
use Rattle.serde_json.specs.declared.value.Value.{Value}
use Rattle.cad_json_read.specs.Forms.{same_text}
use Rattle.cad_json_read.specs.Reading.{pair_in}

abbrev Entry : Type 0
Entry = String Global × Value

abbrev pub entry_is : Entry → String Global → Value → Type 0
entry_is e k x = (e.0 ≡ k) × (e.1 ≡ x)

some_is : {A : Type 0} (a b : A) → Some a ≡ Some b → a ≡ b
some_is a b e = cc

negated : (a : Bool) → false ≡ not a → a ≡ true
negated true e = refl
negated false e = absurd cc

affirmed : (a : Bool) → true ≡ not a → a ≡ false
affirmed true e = absurd cc
affirmed false e = refl

pub not_two : (first second : List ℕ) (es : List Entry) → length es ≢ 2 → None ≡ pair_in first second (members_view es)
not_two first second [] other = refl
not_two first second (a ∷ []) other = refl
not_two first second (a ∷ b ∷ []) other = absurd (other refl)
not_two first second (a ∷ b ∷ c ∷ es) other = refl

pub two : (first second : List ℕ) (es : List Entry) (n : ℕ) (p q : Entry) → n ≡ length es → n ≡ 2 → slice_get es 0 ≡ Some p → slice_get es (length es - 1) ≡ Some q
    → false ≡ not (same_text (string_bytes p.0) first) → false ≡ not (same_text (string_bytes q.0) second) → Some (view p.1, view q.1) ≡ pair_in first second (members_view es)
two first second [] n p q len is f l a b = absurd (omega arith)
two first second (x ∷ []) n p q len is f l a b = absurd (omega arith)
two first second (x ∷ y ∷ z ∷ es) n p q len is f l a b = absurd (omega arith)
two first second (x ∷ y ∷ []) n p q len is f l a b =
    let x_is : x ≡ p = some_is x p f in
    let y_is : y ≡ q = some_is y q l in
    rw (x_is, y_is, negated (same_text (string_bytes p.0) first) a, negated (same_text (string_bytes q.0) second) b) refl

pub wrong_first : (first second : List ℕ) (es : List Entry) (n : ℕ) (p : Entry) → n ≡ length es → n ≡ 2 → slice_get es 0 ≡ Some p
    → true ≡ not (same_text (string_bytes p.0) first) → None ≡ pair_in first second (members_view es)
wrong_first first second [] n p len is f a = refl
wrong_first first second (x ∷ []) n p len is f a = refl
wrong_first first second (x ∷ y ∷ z ∷ es) n p len is f a = refl
wrong_first first second (x ∷ y ∷ []) n p len is f a =
    let x_is : x ≡ p = some_is x p f in
    rw (x_is, affirmed (same_text (string_bytes p.0) first) a) refl

pub wrong_second : (first second : List ℕ) (es : List Entry) (n : ℕ) (p q : Entry) → n ≡ length es → n ≡ 2 → slice_get es 0 ≡ Some p → slice_get es (length es - 1) ≡ Some q
    → false ≡ not (same_text (string_bytes p.0) first) → true ≡ not (same_text (string_bytes q.0) second) → None ≡ pair_in first second (members_view es)
wrong_second first second [] n p q len is f l a b = refl
wrong_second first second (x ∷ []) n p q len is f l a b = refl
wrong_second first second (x ∷ y ∷ z ∷ es) n p q len is f l a b = refl
wrong_second first second (x ∷ y ∷ []) n p q len is f l a b =
    let x_is : x ≡ p = some_is x p f in
    let y_is : y ≡ q = some_is y q l in
    rw (x_is, y_is, negated (same_text (string_bytes p.0) first) a, affirmed (same_text (string_bytes q.0) second) b) refl
