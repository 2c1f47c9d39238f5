-- Conditions: what is read is spelled, and what is spelled is read.
use Rattle.std.proofs.Common.{◌≡◌, ℕ, zero, suc, ◌<◌, ◌≤◌, true, List, [], ◌∷◌, ◌++◌, length, Option, Some, None, refl, sym, ap, ◌∙◌, ◌⊎◌, inl, inr, subst, arith, append-nil, append_assoc}
use Rattle.cad_grammar.specs.declared.token.Sign.TheVariants as s
use Rattle.cad_syntax.specs.declared.keyword.Keyword.{Keyword}
use Rattle.cad_syntax.specs.declared.keyword.Keyword.TheVariants as k
use Rattle.cad_grammar.specs.declared.token.TokenKind.TheVariants as kind
use Rattle.cad_grammar.specs.Trees.{ExprTree, ConditionTree}
use Rattle.cad_grammar.specs.Spots.{Spot, after, keyword, opening}
use Rattle.cad_parse_type.specs.Code.Levels.{token_strength, start}
use Rattle.cad_grammar.specs.Lists as l
use Rattle.cad_grammar.specs.ExpressionGrammar.{Expression}
use Rattle.cad_grammar.specs.StatementGrammar.{begins_plainly, ends_statements, breaks_or_ends, parted}
use Rattle.cad_grammar.specs.ProgramGrammar.{ReadsCondition, ConditionsIn, Conditions}
use Rattle.cad_grammar.specs.ProgramGrammar as g
use Rattle.cad_parse_type.specs.Code.Reading.{maybe}
use Rattle.cad_parse_expr.specs.Code.Reading.{expression}
use Rattle.cad_parse.specs.Code.Parts.{repeated, emitted, plain, condition, parted_condition, condition_list, conditions, conditions_behind}
use Rattle.cad_parse_type.proofs.Heads.{none_of, some_same, then_some, head_start, after_head, after_shorter, keyword_shorter, keyword_head, opening_shorter}
use Rattle.cad_parse_type.proofs.Climbs.{then_is, either_is, either_not, IfFound, then_found, either_found, found_is, found_weaker}
use Rattle.cad_parse_type.proofs.ListLaws.{IsSound, IsRead, maybe_sound, maybe_exact, maybe_short}
use Rattle.cad_parse_expr.proofs.ExpressionLaws.{ExpressionLaws}
use Rattle.cad_parse_statement.proofs.Facts.{Begins, parted_is, parted_short, plainly_begins, begins_weak}
use Rattle.cad_parse.proofs.Found.{As, sound, if_found_by, if_is, sign_weak}

module _ (expressions : ExpressionLaws) where
  -- ---- what is read is spelled

  plain_found : (p : Spot) → IfFound (As ReadsCondition p) (plain p)
  unfolding plain
  plain_found p =
      let P = As ReadsCondition p in
      if_found_by P (begins_plainly p) _ _ (λ b. then_found P (expression p) _ (λ a e. then_found P (maybe (after s.Colon) expression a.1) _ (λ m f.
      g.test b (expressions.expression_sound p a e) (maybe_sound (after s.Colon) expression Expression expressions.expression_sound a.1 m f)))) (λ _. tt)

  emitted_found : (p q : Spot) → keyword k.Emit p ≡ Some q → IfFound (As ReadsCondition p) (emitted q)
  unfolding emitted
  emitted_found p q e = then_found (As ReadsCondition p) (expression q) _ (λ a f. g.emitted e (expressions.expression_sound q a f))

  condition_found : (p : Spot) → IfFound (As ReadsCondition p) (condition p)
  unfolding condition
  condition_found p = either_found (As ReadsCondition p) (keyword k.Emit p) _ _ (λ q e. emitted_found p q e) (λ _. plain_found p)

  condition_sound : IsSound ReadsCondition condition
  condition_sound = sound ReadsCondition condition condition_found

  apart : (p : Spot) (x : ConditionTree × Spot) → parted_condition p ≡ Some x → (q : Spot) × (condition p ≡ Some (x.0, q)) × (parted q ≡ Some x.1)
  unfolding parted_condition
  apart p x e =
      let w = then_some (condition p) _ x e in
      let v = then_some (parted w.0.1) _ x w.2 in
      let same = some_same (w.0.0, v.0) x v.2 in
      (w.0.1, w.1 ∙ ap (λ y. Some (y.0, w.0.1)) same, v.1 ∙ ap (λ y. Some y.1) same)

  -- what the reader of conditions gives, behind those that were found before
  abbrev ConditionsAs : List ConditionTree → Spot → List ConditionTree × Spot → Type 0
  ConditionsAs found p x = (all : List ConditionTree) × (x.0 ≡ found ++ all) × ConditionsIn p all x.1

  list_found : (turns : ℕ) (found : List ConditionTree) (p : Spot) → IfFound (ConditionsAs found p) (repeated parted_condition s.CloseBrace turns found p)
  unfolding repeated
  list_found zero found p = tt
  list_found (suc turns) found p =
      let P = ConditionsAs found p in
      either_found P (after s.CloseBrace p) _ _ (λ q e. ([], sym (append-nil found), g.no_condition e)) (λ _.
      then_found P (parted_condition p) _ (λ x e1. let w = apart p x e1 in
      found_weaker (ConditionsAs (found ++ x.0 ∷ []) x.1) P _ (λ y v. (x.0 ∷ v.0, v.1 ∙ append_assoc found (x.0 ∷ []) v.0, g.condition (condition_sound p (x.0, w.0) w.1) w.2 v.2))
      (list_found turns (found ++ x.0 ∷ []) x.1)))

  list_sound : (turns : ℕ) (p : Spot) (x : List ConditionTree × Spot) → repeated parted_condition s.CloseBrace turns [] p ≡ Some x → ConditionsIn p x.0 x.1
  list_sound turns p x e =
      let w = found_is (ConditionsAs [] p) _ x (list_found turns [] p) e in
      subst (λ all. ConditionsIn p all x.1) (sym w.1) w.2

  conditions_found : (p : Spot) → IfFound (As Conditions p) (conditions p)
  unfolding conditions
  conditions_found p =
      let P = As Conditions p in
      then_found P (opening s.OpenBrace p) _ (λ q e. then_found P (condition_list q) _ (λ all f. g.conditions e (list_sound (length q.tokens) q all f)))

  conditions_sound : IsSound Conditions conditions
  conditions_sound = sound Conditions conditions conditions_found

  pub behind_sound : (asked : Keyword) (p : Spot) (x : Option (List ConditionTree) × Spot) → conditions_behind asked p ≡ Some x → l.Maybe (keyword asked) Conditions p x.0 x.1
  behind_sound asked p x e = maybe_sound (keyword asked) conditions Conditions conditions_sound p x e

  -- ---- what is spelled is read

  -- no keyword that begins no expression comes next where one begins
  no_emit : {p q : Spot} {e : ExprTree} → Expression p e q → keyword k.Emit p ≡ None
  no_emit {p} d = none_of (keyword k.Emit p) (λ q f. omega (arith, expressions.expression_starts d, head_start p (kind.Keyword k.Emit) (keyword_head k.Emit p q f)))

  message_weak : {p q : Spot} {m : Option ExprTree} → l.Maybe (after s.Colon) Expression p m q → token_strength q ≡ 0 → token_strength p ≡ 0
  message_weak (l.absent e) weak = weak
  message_weak (l.present {p} {q} e d) weak = sign_weak s.Colon p q (λ b. refl) e

  message_read : {p q : Spot} {m : Option ExprTree} → l.Maybe (after s.Colon) Expression p m q → token_strength q ≡ 0 → l.Maybe (after s.Colon) (IsRead expression) p m q
  message_read (l.absent e) weak = l.absent e
  message_read (l.present e d) weak = l.present e (expressions.expression_exact d weak)

  condition_exact : {p q : Spot} {c : ConditionTree} → ReadsCondition p c q → token_strength q ≡ 0 → condition p ≡ Some (c, q)
  unfolding condition plain emitted
  condition_exact (g.test {p} {q} {r} {e} {m} b d w) weak =
      either_not (keyword k.Emit p) _ _ (no_emit d) ∙ if_is (begins_plainly p) _ _ b
      ∙ then_is (expression p) _ (e, q) (expressions.expression_exact d (message_weak w weak))
      ∙ then_is (maybe (after s.Colon) expression q) _ (m, r) (maybe_exact (after s.Colon) expression (message_read w weak))
  condition_exact (g.emitted {p} {q} {r} {e} f d) weak =
      either_is (keyword k.Emit p) _ _ q f ∙ then_is (expression q) _ (e, r) (expressions.expression_exact d weak)

  condition_begins : {p q : Spot} {c : ConditionTree} → ReadsCondition p c q → Begins p
  condition_begins (g.test {p} b d w) = plainly_begins p b (expressions.expression_starts d)
  condition_begins (g.emitted {p} {q} f d) = record { found = kind.Keyword k.Emit; is = keyword_head k.Emit p q f; weak = refl; no_end = refl }

  -- what follows a condition goes on nothing
  in_weak : {p q : Spot} {all : List ConditionTree} → ConditionsIn p all q → breaks_or_ends p ≡ true → token_strength p ≡ 0
  in_weak (g.no_condition {p} {q} e) h = sign_weak s.CloseBrace p q (λ b. refl) e
  in_weak (g.condition {p} d e w) h = begins_weak p (condition_begins d) h

  parted_weak : {q u : Spot} {all : List ConditionTree} (p : Spot) → parted p ≡ Some q → ConditionsIn q all u → token_strength p ≡ 0
  parted_weak {q} p e d = behind (parted_is p q e)
    where
      behind : (after s.Semicolon p ≡ Some q) ⊎ ((breaks_or_ends p ≡ true) × (p ≡ q)) → token_strength p ≡ 0
      behind (inl f) = sign_weak s.Semicolon p q (λ b. refl) f
      behind (inr w) = ap token_strength w.1 ∙ in_weak d (sym (ap breaks_or_ends w.1) ∙ w.0)

  no_closing : {p q : Spot} {c : ConditionTree} → ReadsCondition p c q → after s.CloseBrace p ≡ None
  no_closing {p} d = none_of (after s.CloseBrace p) (λ u f.
      let w = condition_begins d in
      let same = some_same w.found (kind.Sign s.CloseBrace) (sym w.is ∙ after_head s.CloseBrace p u f) in
      let c = sym w.no_end ∙ ap ends_statements same in
      cc)

  condition_shorter : {p q : Spot} {c : ConditionTree} → ReadsCondition p c q → length q.tokens < length p.tokens
  condition_shorter (g.test {p} {q} {r} b d w) =
      omega (arith, expressions.expression_shorter d, maybe_short (λ p q e. omega (arith, after_shorter s.Colon p q e)) (λ p q a d. omega (arith, expressions.expression_shorter d)) w)
  condition_shorter (g.emitted {p} {q} f d) = omega (arith, keyword_shorter k.Emit p q f, expressions.expression_shorter d)

  list_exact : {p q : Spot} {all : List ConditionTree} → ConditionsIn p all q → (turns : ℕ) → length p.tokens ≤ turns → (found : List ConditionTree)
      → repeated parted_condition s.CloseBrace turns found p ≡ Some (found ++ all, q)
  unfolding repeated parted_condition
  list_exact (g.no_condition {p} {q} e) zero le found = let never : ⊥ = omega (arith, after_shorter s.CloseBrace p q e) in absurd never
  list_exact (g.no_condition {p} {q} e) (suc turns) le found = either_is (after s.CloseBrace p) _ _ q e ∙ ap (λ z. Some (z, q)) (sym (append-nil found))
  list_exact (g.condition {p} {q} {r} {u} {c} {all} d e w) zero le found = let never : ⊥ = omega (arith, condition_shorter d) in absurd never
  list_exact (g.condition {p} {q} {r} {u} {c} {all} d e w) (suc turns) le found =
      either_not (after s.CloseBrace p) _ _ (no_closing d)
      ∙ then_is (parted_condition p) _ (c, r) (then_is (condition p) _ (c, q) (condition_exact d (parted_weak q e w)) ∙ then_is (parted q) _ r e)
      ∙ list_exact w turns (omega (arith, condition_shorter d, parted_short q r e)) (found ++ c ∷ []) ∙ ap (λ z. Some (z, u)) (append_assoc found (c ∷ []) all)

  conditions_exact : {p q : Spot} {all : List ConditionTree} → Conditions p all q → conditions p ≡ Some (all, q)
  unfolding conditions
  conditions_exact (g.conditions {p} {q} {r} {all} e d) =
      then_is (opening s.OpenBrace p) _ q e ∙ then_is (condition_list q) _ (all, r) (list_exact d (length q.tokens) (omega arith) [])

  conditions_read : {p q : Spot} {c : Option (List ConditionTree)} → (asked : Keyword) → l.Maybe (keyword asked) Conditions p c q → l.Maybe (keyword asked) (IsRead conditions) p c q
  conditions_read asked (l.absent e) = l.absent e
  conditions_read asked (l.present e d) = l.present e (conditions_exact d)

  pub behind_exact : {p q : Spot} {c : Option (List ConditionTree)} → (asked : Keyword) → l.Maybe (keyword asked) Conditions p c q → conditions_behind asked p ≡ Some (c, q)
  behind_exact asked d = maybe_exact (keyword asked) conditions (conditions_read asked d)

  -- ---- what holds of all that is spelled

  in_shorter : {p q : Spot} {all : List ConditionTree} → ConditionsIn p all q → length q.tokens < length p.tokens
  in_shorter (g.no_condition {p} {q} e) = after_shorter s.CloseBrace p q e
  in_shorter (g.condition {p} {q} {r} d e w) = omega (arith, condition_shorter d, parted_short q r e, in_shorter w)

  conditions_shorter : {p q : Spot} {all : List ConditionTree} → Conditions p all q → length q.tokens < length p.tokens
  conditions_shorter (g.conditions {p} {q} {r} e d) = omega (arith, opening_shorter s.OpenBrace p q e, in_shorter d)

  pub behind_short : {p q : Spot} {c : Option (List ConditionTree)} → (asked : Keyword) → l.Maybe (keyword asked) Conditions p c q → length q.tokens ≤ length p.tokens
  behind_short asked d = maybe_short (λ p q e. omega (arith, keyword_shorter asked p q e)) (λ p q a d. omega (arith, conditions_shorter d)) d
