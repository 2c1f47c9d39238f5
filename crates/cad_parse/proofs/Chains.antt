-- Items one after another, as long as one can be read.
use Rattle.std.proofs.Common.{◌≡◌, ◌⊎◌, ℕ, zero, suc, ◌<◌, ◌≤◌, List, [], ◌∷◌, ◌++◌, length, Some, None, refl, sym, ap, ◌∙◌, append-nil, append_assoc}
use Rattle.cad_grammar.specs.Spots.{Spot, either}
use Rattle.cad_grammar.specs.ProgramGrammar.{Chain}
use Rattle.cad_grammar.specs.ProgramGrammar as g
use Rattle.cad_parse_type.specs.Code.Reading.{Reader, climb, appended}
use Rattle.cad_parse_type.proofs.Climbs.{either_is, either_not, cases_of, Shrinks, climb_more, climb_gives, climb_stops, climb_keeps, found_is}
use Rattle.cad_parse.specs.Code.Parts.{chain}

module _ {A : Type 0} (item : Reader A) where
  pub chain_is : (turns : ℕ) (found : List A) (p : Spot) → chain item turns found p ≡ climb appended item turns found p
  unfolding chain climb
  chain_is zero found p = refl
  chain_is (suc turns) found p =
      cases_of _ (item p) (λ e. either_not (item p) _ _ e ∙ sym (either_not (item p) _ _ e)) (λ x e.
      either_is (item p) _ _ x e ∙ chain_is turns (appended found x.0) x.1 ∙ sym (either_is (item p) _ _ x e))

  -- a chain that is spelled goes on behind its end
  module _ (Item : Spot → A → Spot → Type 0) (exact : (p : Spot) (a : A) (q : Spot) → Item p a q → item p ≡ Some (a, q)) (shrinks : Shrinks item) where
    climbs : {p q : Spot} {all : List A} → Chain Item p all q → (found : List A) → climb appended item (length p.tokens) found p ≡ climb appended item (length q.tokens) (found ++ all) q
    climbs (g.end {p}) found = ap (λ l. climb appended item (length p.tokens) l p) (sym (append-nil found))
    climbs (g.link {p} {q} {r} {a} {all} d w) found =
        climb_more appended item shrinks found p (a, q) (exact p a q d) ∙ climbs w (appended found a)
        ∙ ap (λ l. climb appended item (length r.tokens) l r) (append_assoc found (a ∷ []) all)

    -- what a chain gives where one is spelled: the same, or what takes more tokens
    pub chain_extends : {p q : Spot} {all : List A} → Chain Item p all q
        → (x : List A × Spot) × (chain item (length p.tokens) [] p ≡ Some x) × ((x ≡ (all, q)) ⊎ (length x.1.tokens < length q.tokens))
    chain_extends {p} {q} {all} d =
        let w = climb_gives appended item shrinks (length q.tokens) all q in (w.0, chain_is (length p.tokens) [] p ∙ climbs d [] ∙ w.1, w.2)

    -- the same, where no item follows
    pub chain_exact : {p q : Spot} {all : List A} → Chain Item p all q → item q ≡ None → chain item (length p.tokens) [] p ≡ Some (all, q)
    chain_exact {p} {q} {all} d e = chain_is (length p.tokens) [] p ∙ climbs d [] ∙ climb_stops appended item (length q.tokens) all q e

  pub linked : {Item : Spot → A → Spot → Type 0} {p q r : Spot} {a : A} {all : List A} → Chain Item p all q → Item q a r → Chain Item p (all ++ a ∷ []) r
  linked g.end d = g.link d g.end
  linked (g.link c w) d = g.link c (linked w d)

  -- what a chain gives is spelled
  pub chain_sound : (Item : Spot → A → Spot → Type 0) → ((p : Spot) (x : A × Spot) → item p ≡ Some x → Item p x.0 x.1)
      → (turns : ℕ) (p : Spot) (x : List A × Spot) → chain item turns [] p ≡ Some x → Chain Item p x.0 x.1
  chain_sound Item sound turns p x e =
      found_is (λ x. Chain Item p x.0 x.1) (climb appended item turns [] p) x
      (climb_keeps appended item (λ a q. Chain Item p a q) (λ a q y d f. linked d (sound q y f)) turns [] p g.end) (sym (chain_is turns [] p) ∙ e)

  -- a chain always gives something
  pub chain_gives : Shrinks item → (p : Spot) → (x : List A × Spot) × (chain item (length p.tokens) [] p ≡ Some x) × ((x ≡ ([], p)) ⊎ (length x.1.tokens < length p.tokens))
  chain_gives shrinks p = let w = climb_gives appended item shrinks (length p.tokens) [] p in (w.0, chain_is (length p.tokens) [] p ∙ w.1, w.2)
