-- Entries that change registers, one after another.
use Rattle.std.proofs.Common.{◌≡◌, ℕ, ◌+◌, List, [], ◌∷◌, length, refl, sym, ◌∙◌, ap, subst, arith}
use Rattle.std.specs.Prelude.{All}
use Rattle.std.proofs.lemmas.List.Elements.{All-from_recursion}
use Rattle.cad_wire.specs.declared.entry.Entry.{Entry}
use Rattle.cad_wire.specs.Body.{Fits}
use Rattle.cad_wire.proofs.BodyLaws.{All-by_recursion}
use Rattle.cad_accounts.specs.Registers.{Map, changed, applied}

-- these entries are left of all, and have yet to change the map
pub record Turns (all : List Entry) (first m : Map) (left : List Entry) (count : ℕ) : Type 0 where
  pub is : (key : List ℕ) → applied left m key ≡ applied all first key
  pub count_is : count ≡ length left

pub turns_on : (all : List Entry) (first m n : Map) (x : Entry) (left rest : List Entry) (count less : ℕ) → Turns all first m left count → left ≡ x ∷ rest → less + 1 ≡ count → ((key : List ℕ) → n key ≡ changed x.key.0 x.value m key) → Turns all first n rest less
turns_on all first m n x left rest count less t e c new =
    let same : n ≡ changed x.key.0 x.value m = λ i key. new key i in
    record {
      is = λ key. ap (λ (f : Map). applied rest f key) same ∙ ap (λ (es : List Entry). applied es m key) (sym e) ∙ t.is key;
      count_is = omega (arith, t.count_is, ap length e, c);
    }

none_left : (left : List Entry) → 0 ≡ length left → left ≡ []
none_left [] e = refl
none_left (x ∷ left) e = absurd (omega arith)

pub turns_end : (all : List Entry) (first m : Map) (left : List Entry) (count : ℕ) → Turns all first m left count → count ≡ 0 → (key : List ℕ) → m key ≡ applied all first key
turns_end all first m left count t zero key =
    let none : left ≡ [] = none_left left (sym zero ∙ t.count_is) in
    ap (λ (es : List Entry). applied es m key) (sym none) ∙ t.is key

pub fits_rest : (x : Entry) (left rest : List Entry) → left ≡ x ∷ rest → All Fits left → All Fits rest
fits_rest x left rest e h = All-from_recursion Fits rest (All-by_recursion Fits (x ∷ rest) (subst (λ (es : List Entry). All Fits es) e h)).1

pub fits_first : (x : Entry) (left rest : List Entry) → left ≡ x ∷ rest → All Fits left → Fits x
fits_first x left rest e h = (All-by_recursion Fits (x ∷ rest) (subst (λ (es : List Entry). All Fits es) e h)).0
