-- What `result` is.
use Rattle.std.proofs.Common.{◌≡◌, ◌+◌, ℕ, zero, suc, Bool, true, false, cond, ◌==◌, ◌&&◌, Option, Some, None, refl, sym, ap, ◌∙◌, true≢false, arith}
use Rattle.std.proofs.lemmas.Bool.Decides.{nat_tests}
use Rattle.cad_values.specs.Values.{PureValue, nil}
use Rattle.cad_world.specs.Labels.{with_frame}
use Rattle.cad_world.specs.Rows.{NodeShape, plain, link, array, dictionary, composite, Row, Tree, Slot, out, free, full}
use Rattle.cad_world.specs.State.{State, ok, ill, give, with_some}
use Rattle.cad_world.specs.Trees.{nil_tree}
use Rattle.cad_evaluation.specs.Arguments.{in_slot}
use Rattle.cad_evaluation.specs.Bodies.{result_by, linked_content, linked_result}
use Rattle.cad_evaluation.specs.Changing.{content_of, content_in_shape, content_in_value, Content, nothing, content, no_optional}
use Rattle.cad_evaluation.specs.Reading.{copied}
use Rattle.cad_making.specs.Code.Results.{is_nil_in, is_nil_node, is_nil_tree, linked_in, link_in, named_result, seen_at}
use Rattle.cad_making.specs.declared.results.Seen.{Seen}
use Rattle.cad_making.specs.declared.results.Seen.TheVariants as seen

abbrev is_nothing : Content → Bool
is_nothing nothing = true
is_nothing _ = false

-- what is in an optional is nothing where the value is nil
value_nothing : (x : PureValue) → is_nothing (content_in_value x) ≡ is_nil_in x
value_nothing nil = refl
value_nothing _ = refl

shape_nothing : (sh : NodeShape) → is_nothing (content_in_shape sh) ≡ is_nil_node sh
shape_nothing (plain x) = value_nothing x
shape_nothing (link a l n) = refl
shape_nothing (array t) = refl
shape_nothing (dictionary k t ks) = refl
shape_nothing (composite id i names) = refl

tree_nothing : (n : ℕ) (sh : NodeShape) (r : Row) → is_nothing (content_of (record { optionals = n; shape = sh; parts = r })) ≡ is_nil_tree (record { optionals = n; shape = sh; parts = r })
tree_nothing zero sh r = shape_nothing sh
tree_nothing (suc n) sh r = let e : (suc n == 0) ≡ false = grind (arith, nat_tests) in sym (ap (λ b. b && is_nil_node sh) e)

linked : (t : Tree) (c : Content) → is_nothing c ≡ false → linked_content t c ≡ linked_result t
linked t nothing e = absurd (true≢false e)
linked t (content x) e = refl
linked t no_optional e = refl

not_linked : (t : Tree) (c : Content) → is_nothing c ≡ true → linked_content t c ≡ give nil_tree
not_linked t nothing e = refl
not_linked t (content x) e = absurd (true≢false (sym e))
not_linked t no_optional e = absurd (true≢false (sym e))

abbrev some_seen : Option Seen → Bool
some_seen None = false
some_seen (Some x) = true

abbrev seen_nil : Option Seen → Bool
seen_nil (Some seen.Nil) = true
seen_nil _ = false

abbrev seen_optionals : ℕ → Option Seen → ℕ
seen_optionals d (Some (seen.Content n)) = n
seen_optionals d _ = d

pub sees_content : (o : Slot) (n : ℕ) (s : State) → Some (seen.Content n) ≡ seen_at o → result_by true o s ≡ linked_in n s
sees_content out n s e = absurd (true≢false (ap some_seen e))
sees_content free n s e = absurd (true≢false (ap some_seen e))
sees_content (full t) n s e = go (is_nil_tree t) refl e
  where
    go : (b : Bool) → is_nil_tree t ≡ b → Some (seen.Content n) ≡ Some (cond b seen.Nil (seen.Content t.optionals)) → result_by true (full t) s ≡ linked_in n s
    go true d e = absurd (true≢false (ap seen_nil (sym e)))
    go false d e = ap (λ p. p s) (linked t (content_of t) (tree_nothing t.optionals t.shape t.parts ∙ d)) ∙ ap (λ k. linked_in k s) (sym (ap (seen_optionals 0) e))

pub sees_nil : (o : Slot) (s : State) → Some seen.Nil ≡ seen_at o → result_by true o s ≡ ok nil_tree s
sees_nil out s e = absurd (true≢false (ap some_seen e))
sees_nil free s e = absurd (true≢false (ap some_seen e))
sees_nil (full t) s e = go (is_nil_tree t) refl e
  where
    go : (b : Bool) → is_nil_tree t ≡ b → Some seen.Nil ≡ Some (cond b seen.Nil (seen.Content t.optionals)) → result_by true (full t) s ≡ ok nil_tree s
    go true d e = ap (λ p. p s) (not_linked t (content_of t) (tree_nothing t.optionals t.shape t.parts ∙ d))
    go false d e = absurd (true≢false (ap seen_nil e))

pub sees_none : (o : Slot) (s : State) → None ≡ seen_at o → result_by true o s ≡ ill
sees_none out s e = refl
sees_none free s e = refl
sees_none (full t) s e = absurd (true≢false (ap some_seen (sym e)))

-- a copy
pub copies : (o : Slot) (s : State) → result_by false o s ≡ with_some (in_slot o) copied s
copies out s = refl
copies free s = refl
copies (full t) s = refl

pub links : (s u : State) (n l : ℕ) (t : Tree) → l ≡ s.next_label + 1 → u ≡ with_frame (named_result s.next_label) s → t ≡ link_in s.next_label n → linked_in n s ≡ ok t (record u { next_label = l })
links s u n l t e d h =
    (let f : suc s.next_label ≡ l = omega (arith, e) in ap (λ k. ok (link_in s.next_label n) (record (with_frame (named_result s.next_label) s) { next_label = k })) f)
    ∙ ap (λ v. ok (link_in s.next_label n) (record v { next_label = l })) (sym d) ∙ ap (λ x. ok x (record u { next_label = l })) (sym h)
