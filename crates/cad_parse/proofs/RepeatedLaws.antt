-- Items one after another up to a closing sign: what is read is spelled, and what is spelled is read.
use Rattle.std.proofs.Common.{◌≡◌, ℕ, zero, suc, ◌<◌, ◌≤◌, Bool, List, [], ◌∷◌, ◌++◌, length, Some, None, sym, ap, ◌∙◌, subst, arith, append-nil, append_assoc}
use Rattle.cad_grammar.specs.declared.token.Sign.{Sign}
use Rattle.cad_grammar.specs.Spots.{Spot, after}
use Rattle.cad_grammar.specs.Lists.{Repeated}
use Rattle.cad_grammar.specs.Lists as l
use Rattle.cad_parse_type.specs.Code.Levels.{sign_strength, token_strength}
use Rattle.cad_parse_type.specs.Code.Reading.{Reader}
use Rattle.cad_parse_type.proofs.Heads.{after_shorter, after_strength}
use Rattle.cad_parse_type.proofs.Climbs.{then_is, either_is, either_not, IfFound, then_found, either_found, found_is, found_weaker}
use Rattle.cad_parse_type.proofs.ListLaws.{IsSound}
use Rattle.cad_parse.specs.Code.Parts.{repeated}

-- what is found there is spelled
abbrev pub As : {A : Type 0} → (Spot → A → Spot → Type 0) → Spot → A × Spot → Type 0
As Item p x = Item p x.0 x.1

-- what the reader of items gives, behind those that were found before
abbrev pub RepeatedAs : {A : Type 0} → (Spot → A → Spot → Type 0) → Sign → List A → Spot → List A × Spot → Type 0
RepeatedAs {A} Item closing found p x = (all : List A) × (x.0 ≡ found ++ all) × Repeated Item closing p all x.1

-- An item is read where it is spelled and what follows goes on nothing; it takes a token, and neither goes on what stands before it
-- nor begins with the closing sign.
pub record ItemLaws {A : Type 0} (Item : Spot → A → Spot → Type 0) (item : Reader A) (closing : Sign) : Type 0 where
  pub is_sound : IsSound Item item
  pub is_exact : (p q : Spot) (a : A) → Item p a q → token_strength q ≡ 0 → item p ≡ Some (a, q)
  pub is_shorter : (p q : Spot) (a : A) → Item p a q → length q.tokens < length p.tokens
  pub is_weak : (p q : Spot) (a : A) → Item p a q → token_strength p ≡ 0
  pub is_open : (p q : Spot) (a : A) → Item p a q → after closing p ≡ None

module _ {A : Type 0} (Item : Spot → A → Spot → Type 0) (item : Reader A) (closing : Sign) where
  repeated_found : IsSound Item item → (turns : ℕ) (found : List A) (p : Spot) → IfFound (RepeatedAs Item closing found p) (repeated item closing turns found p)
  unfolding repeated
  repeated_found h zero found p = tt
  repeated_found h (suc turns) found p =
      let P = RepeatedAs Item closing found p in
      either_found P (after closing p) _ _ (λ q e. ([], sym (append-nil found), l.done e)) (λ _.
      then_found P (item p) _ (λ x e. found_weaker (RepeatedAs Item closing (found ++ x.0 ∷ []) x.1) P _ (λ y w. (x.0 ∷ w.0, w.1 ∙ append_assoc found (x.0 ∷ []) w.0, l.again (h p x e) w.2))
      (repeated_found h turns (found ++ x.0 ∷ []) x.1)))

  -- items that are read are spelled
  pub repeated_sound : IsSound Item item → (turns : ℕ) (p : Spot) (x : List A × Spot) → repeated item closing turns [] p ≡ Some x → Repeated Item closing p x.0 x.1
  repeated_sound h turns p x e =
      let w = found_is (RepeatedAs Item closing [] p) _ x (repeated_found h turns [] p) e in
      subst (λ all. Repeated Item closing p all x.1) (sym w.1) w.2

  module _ (laws : ItemLaws Item item closing) (weak : (b : Bool) → sign_strength b closing ≡ 0) where
    pub repeated_shorter : {p q : Spot} {all : List A} → Repeated Item closing p all q → length q.tokens < length p.tokens
    repeated_shorter (l.done {p} {q} e) = after_shorter closing p q e
    repeated_shorter (l.again {p} {q} {r} {a} d w) = omega (arith, laws.is_shorter p q a d, repeated_shorter w)

    -- what stands first goes on nothing: an item or the closing sign
    pub repeated_weak : {p q : Spot} {all : List A} → Repeated Item closing p all q → token_strength p ≡ 0
    repeated_weak (l.done {p} {q} e) = let w = after_strength closing p q e in w.1 ∙ weak w.0
    repeated_weak (l.again {p} {q} {r} {a} d w) = laws.is_weak p q a d

    repeated_from : {p q : Spot} {all : List A} → Repeated Item closing p all q → (turns : ℕ) → length p.tokens ≤ turns → (found : List A)
        → repeated item closing turns found p ≡ Some (found ++ all, q)
    unfolding repeated
    repeated_from (l.done {p} {q} e) zero le found = let never : ⊥ = omega (arith, after_shorter closing p q e) in absurd never
    repeated_from (l.done {p} {q} e) (suc turns) le found = either_is (after closing p) _ _ q e ∙ ap (λ z. Some (z, q)) (sym (append-nil found))
    repeated_from (l.again {p} {q} {r} {a} {all} d w) zero le found = let never : ⊥ = omega (arith, laws.is_shorter p q a d) in absurd never
    repeated_from (l.again {p} {q} {r} {a} {all} d w) (suc turns) le found =
        either_not (after closing p) _ _ (laws.is_open p q a d) ∙ then_is (item p) _ (a, q) (laws.is_exact p q a d (repeated_weak w))
        ∙ repeated_from w turns (omega (arith, laws.is_shorter p q a d)) (found ++ a ∷ []) ∙ ap (λ z. Some (z, r)) (append_assoc found (a ∷ []) all)

    -- items that are spelled are read
    pub repeated_exact : {p q : Spot} {all : List A} → Repeated Item closing p all q → repeated item closing (length p.tokens) [] p ≡ Some (all, q)
    repeated_exact {p} w = repeated_from w (length p.tokens) (omega arith) []
