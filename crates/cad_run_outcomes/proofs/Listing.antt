-- Events as JSON, one after another.
use Rattle.std.proofs.Common.{◌≡◌, ℕ, suc, ◌+◌, ◌<◌, ◌≤◌, Bool, true, false, List, [], ◌∷◌, ◌++◌, length, drop, get_or, Option, Some, None, Result, Ok, IfOk, refl, sym, ap, ◌∙◌, subst, append_assoc, add-one}
use Rattle.std.proofs.Math.Seq.{drop-cons}
use Rattle.std.proofs.lemmas.List.{drop_all}
use Rattle.serde_json.specs.Data.{Data, Items, no_items, item}
use Rattle.serde_json.specs.Written.{compact_text, comma_if, items_text}
use Rattle.cad_json.specs.Forms.{has_form}
use Rattle.cad_json.specs.Told.{told}
use Rattle.cad_types.specs.Declarations.{Declaration}
use Rattle.cad_values.specs.Values.{PureValue}

some_is : {A : Type 0} (a b : A) → Some a ≡ Some b → a ≡ b
some_is a b e = cc

some_none : {A : Type 0} (a : A) → Some a ≡ None → ⊥
some_none a e = cc

-- what was exported is what is told
pub exported : {E : Type 0} (declared : List Declaration) (v : PureValue) (r : Result (Option (List ℕ)) E) (text : List ℕ)
    → (has_form declared v ≡ true → IfOk r (λ t. t ≡ Some (compact_text (told declared v)))) → (has_form declared v ≡ false → IfOk r (λ t. t ≡ None)) → r ≡ Ok (Some text) → text ≡ compact_text (told declared v)
exported {E} declared v r text has lacks is = by (has_form declared v) refl
  where
    by : (b : Bool) → has_form declared v ≡ b → text ≡ compact_text (told declared v)
    by true e = some_is text (compact_text (told declared v)) (subst (λ (o : Result (Option (List ℕ)) E). IfOk o (λ t. t ≡ Some (compact_text (told declared v)))) is (has e))
    by false e = absurd (some_none text (subst (λ (o : Result (Option (List ℕ)) E). IfOk o (λ t. t ≡ None)) is (lacks e)))

-- what is left at a place begins with what stands there
pub drop_at : {X : Type 0} (xs : List X) (i : ℕ) (x : X) → i < length xs → x ≡ get_or xs i x → drop i xs ≡ x ∷ drop (i + 1) xs
drop_at xs i x inside is = rw (add-one i) (drop-cons xs i x inside ∙ ap (λ y. y ∷ drop (suc i) xs) (sym is))

-- a loop over what is written as the items of a list: one more item behind those that stand there, and the end
module _ {X : Type 0} (json : X → Data) (items : List X → Items) (later : Bool) (xs : List X) (i : ℕ) (t t1 whole : List ℕ) where
  pub items_turn : (x : X) → ((rest : List X) → items (x ∷ rest) ≡ item (json x) (items rest)) → drop i xs ≡ x ∷ drop (i + 1) xs
      → t ++ items_text later (items (drop i xs)) ≡ whole → t1 ≡ t ++ (comma_if later ++ compact_text (json x)) → t1 ++ items_text true (items (drop (i + 1) xs)) ≡ whole
  items_turn x more left so_far new =
      let rest = items_text true (items (drop (i + 1) xs)) in
      ap (λ (w : List ℕ). w ++ rest) new
      ∙ append_assoc t (comma_if later ++ compact_text (json x)) rest
      ∙ ap (λ (w : List ℕ). t ++ w) (append_assoc (comma_if later) (compact_text (json x)) rest)
      ∙ ap (λ (w : Items). t ++ items_text later w) (sym (more (drop (i + 1) xs)))
      ∙ ap (λ (ys : List X). t ++ items_text later (items ys)) (sym left)
      ∙ so_far

  pub items_end : items [] ≡ no_items → length xs ≤ i → t ++ items_text later (items (drop i xs)) ≡ whole → t1 ≡ t ++ 93 ∷ [] → t1 ≡ whole
  items_end none past so_far closed =
      closed
      ∙ ap (λ (w : Items). t ++ items_text later w) (sym none)
      ∙ ap (λ (ys : List X). t ++ items_text later (items ys)) (sym (drop_all i xs past))
      ∙ so_far
