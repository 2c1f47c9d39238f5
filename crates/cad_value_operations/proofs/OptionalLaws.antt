-- What is in an optional.
use Rattle.std.proofs.Common.{◌≡◌, ℕ, zero, suc, ◌-◌, Bool, true, false, Option, Some, None, refl, sym, ap, ◌∙◌, subst, arith}
use Rattle.std.proofs.lemmas.Bool.{false≢true}
use Rattle.cad_evaluation.specs.Changing.{Content, nothing, content, no_optional, content_of, content_in, content_in_shape, by_content}
use Rattle.cad_evaluation.specs.Uses.{taken_if}
use Rattle.cad_value_operations.specs.Code.Optionals.{in_optionals, is_nil, nil_in}
use Rattle.cad_value_operations.specs.Optionals.{left_or_none}
use Rattle.cad_values.specs.Values as v
use Rattle.cad_world.specs.Rows.{NodeShape, plain, link, array, dictionary, composite, Tree}
use Rattle.cad_world.specs.State.{State, ok, ill}

inside_of : (n : ℕ) (t : Tree) → ¬ (n ≡ 0) → content_in n t ≡ content (in_optionals t (n - 1))
inside_of zero t some = absurd (some refl)
inside_of (suc n) t some = ap (λ (m : ℕ). content (in_optionals t m)) (let e : n ≡ suc n - 1 = omega arith in e)

pub content_inside : (t : Tree) (n : ℕ) → n ≡ t.optionals → ¬ (n ≡ 0) → content (in_optionals t (n - 1)) ≡ content_of t
content_inside t n e some = sym (subst (λ (m : ℕ). content_in m t ≡ content (in_optionals t (n - 1))) e (inside_of n t some))

nil_shape : (shape : NodeShape) → true ≡ is_nil shape → content_in_shape shape ≡ nothing
nil_shape (plain v.nil) e = refl
nil_shape (plain v.void) e = absurd (false≢true (sym e))
nil_shape (plain (v.some x)) e = absurd (false≢true (sym e))
nil_shape (plain (v.bool b)) e = absurd (false≢true (sym e))
nil_shape (plain (v.number n)) e = absurd (false≢true (sym e))
nil_shape (plain (v.string text)) e = absurd (false≢true (sym e))
nil_shape (plain (v.character text)) e = absurd (false≢true (sym e))
nil_shape (plain (v.address a)) e = absurd (false≢true (sym e))
nil_shape (plain (v.path p)) e = absurd (false≢true (sym e))
nil_shape (plain (v.meta type)) e = absurd (false≢true (sym e))
nil_shape (plain (v.capability a n type)) e = absurd (false≢true (sym e))
nil_shape (plain (v.reference a type to)) e = absurd (false≢true (sym e))
nil_shape (plain (v.array type vs)) e = absurd (false≢true (sym e))
nil_shape (plain (v.dictionary k type es)) e = absurd (false≢true (sym e))
nil_shape (plain (v.composite id n fs)) e = absurd (false≢true (sym e))
nil_shape (link a l n) e = absurd (false≢true (sym e))
nil_shape (array type) e = absurd (false≢true (sym e))
nil_shape (dictionary k type ks) e = absurd (false≢true (sym e))
nil_shape (composite id i ns) e = absurd (false≢true (sym e))

other_shape : (shape : NodeShape) → false ≡ is_nil shape → content_in_shape shape ≡ no_optional
other_shape (plain v.nil) e = absurd (false≢true e)
other_shape (plain v.void) e = refl
other_shape (plain (v.some x)) e = refl
other_shape (plain (v.bool b)) e = refl
other_shape (plain (v.number n)) e = refl
other_shape (plain (v.string text)) e = refl
other_shape (plain (v.character text)) e = refl
other_shape (plain (v.address a)) e = refl
other_shape (plain (v.path p)) e = refl
other_shape (plain (v.meta type)) e = refl
other_shape (plain (v.capability a n type)) e = refl
other_shape (plain (v.reference a type to)) e = refl
other_shape (plain (v.array type vs)) e = refl
other_shape (plain (v.dictionary k type es)) e = refl
other_shape (plain (v.composite id n fs)) e = refl
other_shape (link a l n) e = refl
other_shape (array type) e = refl
other_shape (dictionary k type ks) e = refl
other_shape (composite id i ns) e = refl

none_round : (t : Tree) → 0 ≡ t.optionals → content_of t ≡ content_in_shape t.shape
none_round t e = ap (λ (n : ℕ). content_in n t) (sym e)

pub content_nil : (t : Tree) → 0 ≡ t.optionals → true ≡ is_nil t.shape → nothing ≡ content_of t
content_nil t e h = sym (none_round t e ∙ nil_shape t.shape h)

pub content_not : (t : Tree) → 0 ≡ t.optionals → false ≡ is_nil t.shape → no_optional ≡ content_of t
content_not t e h = sym (none_round t e ∙ other_shape t.shape h)

-- ---- whether it is nil

pub told_inside : (t : Tree) (n : ℕ) → n ≡ t.optionals → ¬ (n ≡ 0) → Some false ≡ nil_in (content_of t)
told_inside t n e some = ap nil_in (content_inside t n e some)

pub told_nil : (t : Tree) → 0 ≡ t.optionals → true ≡ is_nil t.shape → Some true ≡ nil_in (content_of t)
told_nil t e h = ap nil_in (content_nil t e h)

pub told_not : (t : Tree) → 0 ≡ t.optionals → false ≡ is_nil t.shape → None ≡ nil_in (content_of t)
told_not t e h = ap nil_in (content_not t e h)

-- ---- the optional itself

whole_again : (n : ℕ) (t : Tree) → nil_in (content_in n t) ≡ Some false → by_content {A = Option Tree} (content_in n t) (λ s. ok None s) (λ inside s. ok (Some t) s) ≡ (λ s. ok (Some t) s)
whole_again zero t e = other (content_in_shape t.shape) e
  where
    other : (c : Content) → nil_in c ≡ Some false → by_content {A = Option Tree} c (λ s. ok None s) (λ inside s. ok (Some t) s) ≡ (λ s. ok (Some t) s)
    other nothing e = absurd (false≢true (sym (ap truth e)))
      where
        truth : Option Bool → Bool
        truth None = false
        truth (Some b) = b
    other (content u) e = refl
    other no_optional e = absurd (false≢true (ap there e))
      where
        there : Option Bool → Bool
        there None = false
        there (Some b) = true
whole_again (suc n) t e = refl

pub left_whole : (t : Tree) (s : State) → Some false ≡ nil_in (content_of t) → left_or_none false t s ≡ ok (Some t) s
left_whole t s e = ap (λ (p : State → _). p s) (whole_again t.optionals t (sym e))

left_by : (c : Content) (t : Tree) (s : State) → Some true ≡ nil_in c → by_content {A = Option Tree} c (λ s. ok None s) (λ inside s. ok (Some (taken_if false t inside)) s) s ≡ ok None s
left_by nothing t s e = refl
left_by (content u) t s e = absurd (false≢true (sym (ap truth e)))
  where
    truth : Option Bool → Bool
    truth None = false
    truth (Some b) = b
left_by no_optional t s e = absurd (false≢true (sym (ap there e)))
  where
    there : Option Bool → Bool
    there None = false
    there (Some b) = true

pub left_nothing : (t : Tree) (s : State) → Some true ≡ nil_in (content_of t) → left_or_none false t s ≡ ok None s
left_nothing t s e = left_by (content_of t) t s e

ill_by : (c : Content) (t : Tree) (s : State) → None ≡ nil_in c → by_content {A = Option Tree} c (λ s. ok None s) (λ inside s. ok (Some (taken_if false t inside)) s) s ≡ ill
ill_by nothing t s e = absurd (false≢true (ap there e))
  where
    there : Option Bool → Bool
    there None = false
    there (Some b) = true
ill_by (content u) t s e = absurd (false≢true (ap there e))
  where
    there : Option Bool → Bool
    there None = false
    there (Some b) = true
ill_by no_optional t s e = refl

pub left_ill : (t : Tree) (s : State) → None ≡ nil_in (content_of t) → left_or_none false t s ≡ ill
left_ill t s e = ill_by (content_of t) t s e
