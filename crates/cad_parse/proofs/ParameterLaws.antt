-- Parameters: what is read is spelled, and what is spelled is read.
use Rattle.std.proofs.Common.{◌≡◌, ℕ, ◌<◌, ◌≤◌, Bool, List, [], ◌∷◌, length, Option, Some, refl, sym, ap, ◌∙◌, arith}
use Rattle.cad_grammar.specs.declared.token.Sign.{Sign}
use Rattle.cad_grammar.specs.declared.token.Sign.TheVariants as s
use Rattle.cad_grammar.specs.declared.token.TokenKind.TheVariants as kind
use Rattle.cad_syntax.specs.declared.text.Name.{Name}
use Rattle.cad_grammar.specs.Trees.{Annotation, ParameterTree}
use Rattle.cad_grammar.specs.Spots.{Spot, after, name, opening}
use Rattle.cad_parse_type.specs.Code.Levels.{sign_strength, token_strength}
use Rattle.cad_grammar.specs.Lists as l
use Rattle.cad_grammar.specs.StatementGrammar.{MaybeAnnotated}
use Rattle.cad_grammar.specs.TypeGrammar.{Annotated}
use Rattle.cad_grammar.specs.ProgramGrammar.{ReadsParameter, Parameters}
use Rattle.cad_grammar.specs.ProgramGrammar as g
use Rattle.cad_parse_type.specs.Code.Reading.{annotation}
use Rattle.cad_parse_statement.specs.Code.Reading.{maybe_annotated}
use Rattle.cad_parse.specs.Code.Parts.{labelled, parameter_behind, parameter, parameter_list, parameters}
use Rattle.cad_parse_type.proofs.Heads.{some_same, then_some, head, after_shorter, after_left, name_shorter, name_head, name_no_sign, opening_shorter}
use Rattle.cad_parse_type.proofs.Climbs.{then_is, either_is, either_not, IfFound, then_found, either_found}
use Rattle.cad_parse_type.proofs.ListLaws.{IsSound, IsRead, ReadBefore, listed_sound, listed_read, listed_exact, listed_shorter, maybe_sound, maybe_exact, maybe_short, maybe_left}
use Rattle.cad_parse_type.proofs.TypeLaws.{TypeLaws}
use Rattle.cad_parse.proofs.Found.{As, sound, sign_weak}

-- ---- a name and ":"

pub labelled_is : (p : Spot) (x : Name × Spot) → labelled p ≡ Some x → (q : Spot) × (name p ≡ Some (x.0, q)) × (after s.Colon q ≡ Some x.1)
unfolding labelled
labelled_is p x e =
    let w = then_some (name p) _ x e in
    let v = then_some (after s.Colon w.0.1) _ x w.2 in
    let same = some_same (w.0.0, v.0) x v.2 in
    (w.0.1, w.1 ∙ ap (λ y. Some (y.0, w.0.1)) same, v.1 ∙ ap (λ y. Some y.1) same)

pub labelled_exact : (p q r : Spot) (n : Name) → name p ≡ Some (n, q) → after s.Colon q ≡ Some r → labelled p ≡ Some (n, r)
unfolding labelled
labelled_exact p q r n e f = then_is (name p) _ (n, q) e ∙ then_is (after s.Colon q) _ r f

-- its first token is a name
pub parameter_name : {p q : Spot} {x : ParameterTree} → ReadsParameter p x q → (n : Name) × (head p ≡ Some (kind.Name n))
parameter_name (g.unlabelled {p} {q} {n} e f d) = (n, name_head p (n, q) e)
parameter_name (g.labelled {p} {q} {l} e f h d) = (l, name_head p (l, q) e)

module _ (types : TypeLaws) where
  -- ---- what is read is spelled

  parameter_behind_found : (p q : Spot) (label : Name) → name p ≡ Some (label, q) → IfFound (As ReadsParameter p) (parameter_behind label q)
  unfolding parameter_behind
  parameter_behind_found p q label e =
      let P = As ReadsParameter p in
      then_found P (labelled q) _ (λ n f. let w = labelled_is q n f in then_found P (annotation n.1) _ (λ a h. g.labelled e w.1 w.2 (types.annotation_sound n.1 a h)))

  parameter_found : (p : Spot) → IfFound (As ReadsParameter p) (parameter p)
  unfolding parameter
  parameter_found p =
      let P = As ReadsParameter p in
      then_found P (name p) _ (λ n e. either_found P (after s.Colon n.1) _ _
      (λ q f. then_found P (annotation q) _ (λ a h. g.unlabelled e f (types.annotation_sound q a h))) (λ _. parameter_behind_found p n.1 n.0 e))

  pub parameter_sound : IsSound ReadsParameter parameter
  parameter_sound = sound ReadsParameter parameter parameter_found

  parameters_found : (p : Spot) → IfFound (As Parameters p) (parameters p)
  unfolding parameters
  parameters_found p =
      let P = As Parameters p in
      then_found P (opening s.OpenParenthesis p) _ (λ q e. then_found P (parameter_list q) _ (λ all f.
      g.parameters e (listed_sound ReadsParameter parameter s.CloseParenthesis parameter_sound (length q.tokens) q all f)))

  pub parameters_sound : IsSound Parameters parameters
  parameters_sound = sound Parameters parameters parameters_found

  pub annotated_sound : (p : Spot) (x : Option Annotation × Spot) → maybe_annotated p ≡ Some x → MaybeAnnotated p x.0 x.1
  unfolding maybe_annotated
  annotated_sound p x e = maybe_sound (after s.Colon) annotation Annotated types.annotation_sound p x e

  -- ---- what is spelled is read

  pub parameter_exact : {p q : Spot} {x : ParameterTree} → ReadsParameter p x q → token_strength q ≡ 0 → parameter p ≡ Some (x, q)
  unfolding parameter parameter_behind
  parameter_exact (g.unlabelled {p} {q} {r} {u} {n} {a} e f d) weak =
      then_is (name p) _ (n, q) e ∙ either_is (after s.Colon q) _ _ r f ∙ then_is (annotation r) _ (a, u) (types.annotation_exact d weak)
  parameter_exact (g.labelled {p} {q} {r} {u} {v} {l = label} {n} {a} e f h d) weak =
      then_is (name p) _ (label, q) e ∙ either_not (after s.Colon q) _ _ (name_no_sign s.Colon n q (name_head q (n, r) f))
      ∙ then_is (labelled q) _ (n, u) (labelled_exact q r u n f h) ∙ then_is (annotation u) _ (a, v) (types.annotation_exact d weak)

  pub parameter_before : (sign : Sign) → ((b : Bool) → sign_strength b sign ≡ 0) → ReadBefore ReadsParameter parameter sign
  parameter_before sign weak p q r x d e = parameter_exact d (sign_weak sign q r weak e)

  pub no_parameter : (sign : Sign) (p q : Spot) (x : ParameterTree × Spot) → after sign p ≡ Some q → parameter p ≡ Some x → ⊥
  no_parameter sign p q x e f =
      let w = parameter_name (parameter_sound p x f) in
      let c = sym e ∙ name_no_sign sign w.0 p w.1 in
      cc

  pub parameter_shorter : {p q : Spot} {x : ParameterTree} → ReadsParameter p x q → length q.tokens < length p.tokens
  parameter_shorter (g.unlabelled {p} {q} {r} {u} {n} e f d) = omega (arith, name_shorter p (n, q) e, after_shorter s.Colon q r f, types.annotated_shorter d)
  parameter_shorter (g.labelled {p} {q} {r} {u} {v} {l = label} {n} e f h d) =
      omega (arith, name_shorter p (label, q) e, name_shorter q (n, r) f, after_shorter s.Colon r u h, types.annotated_shorter d)

  parameter_takes : (p : Spot) (x : ParameterTree × Spot) → parameter p ≡ Some x → length x.1.tokens < length p.tokens
  parameter_takes p x e = parameter_shorter (parameter_sound p x e)

  pub parameters_exact : {p q : Spot} {all : List ParameterTree} → Parameters p all q → parameters p ≡ Some (all, q)
  unfolding parameters
  parameters_exact (g.parameters {p} {q} {r} {all} e d) =
      then_is (opening s.OpenParenthesis p) _ q e
      ∙ then_is (parameter_list q) _ (all, r) (listed_exact parameter s.CloseParenthesis (λ x. cc) (no_parameter s.CloseParenthesis) parameter_takes
      (listed_read (parameter_before s.Comma (λ b. refl)) (parameter_before s.CloseParenthesis (λ b. refl)) d) (length q.tokens) (omega arith) [])

  pub annotated_exact : {p q : Spot} {a : Option Annotation} → MaybeAnnotated p a q → token_strength q ≡ 0 → maybe_annotated p ≡ Some (a, q)
  unfolding maybe_annotated
  annotated_exact {p} {q} {a} d weak = maybe_exact (after s.Colon) annotation (maybe_read d weak)
    where
      maybe_read : {p q : Spot} {a : Option Annotation} → MaybeAnnotated p a q → token_strength q ≡ 0 → l.Maybe (after s.Colon) (IsRead annotation) p a q
      maybe_read (l.absent e) weak = l.absent e
      maybe_read (l.present e d) weak = l.present e (types.annotation_exact d weak)

  -- ---- what holds of all that is spelled

  all_shorter : (p q : Spot) (x : ParameterTree) → ReadsParameter p x q → length q.tokens < length p.tokens
  all_shorter p q x d = parameter_shorter d

  pub parameters_shorter : {p q : Spot} {all : List ParameterTree} → Parameters p all q → length q.tokens < length p.tokens
  parameters_shorter (g.parameters {p} {q} {r} e d) = omega (arith, opening_shorter s.OpenParenthesis p q e, listed_shorter all_shorter d)

  pub annotated_short : {p q : Spot} {a : Option Annotation} → MaybeAnnotated p a q → length q.tokens ≤ length p.tokens
  annotated_short d = maybe_short (λ p q e. omega (arith, after_shorter s.Colon p q e)) (λ p q a d. omega (arith, types.annotated_shorter d)) d

  pub annotated_left : {p q : Spot} {a : Option Annotation} → MaybeAnnotated p a q → q.left ≡ p.left
  annotated_left d = maybe_left (λ p q e. after_left s.Colon p q e) (λ p q a d. types.annotated_left d) d
