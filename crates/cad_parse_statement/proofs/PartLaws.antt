-- The parts of statements: what is read is spelled, and what is spelled is read.
use Rattle.std.proofs.Common.{◌≡◌, Option, Some}
use Rattle.cad_grammar.specs.declared.token.Sign.TheVariants as s
use Rattle.cad_syntax.specs.declared.keyword.Keyword.TheVariants as k
use Rattle.cad_syntax.specs.declared.text.Name.{Name}
use Rattle.cad_grammar.specs.declared.statement.VariableKind.{VariableKind}
use Rattle.cad_grammar.specs.declared.statement.Transfer.{Transfer}
use Rattle.cad_grammar.specs.Trees.{Annotation, ExprTree, TestTree, SecondTree, StmtTree}
use Rattle.cad_grammar.specs.Trees as tree
use Rattle.cad_grammar.specs.Spots.{Spot, after, keyword, name}
use Rattle.cad_grammar.specs.TypeGrammar.{Annotated}
use Rattle.cad_grammar.specs.ExpressionGrammar.{Expression}
use Rattle.cad_grammar.specs.StatementGrammar.{MaybeAnnotated, Tested, Seconded, Loops, ReadsStmt, variable_word, variable_kind_of, transfer, transfer_of}
use Rattle.cad_grammar.specs.StatementGrammar as g
use Rattle.cad_parse_type.specs.Code.Reading.{annotation}
use Rattle.cad_parse_type.proofs.TypeLaws.{TypeLaws}
use Rattle.cad_parse_type.proofs.Climbs.{IfFound, then_found, either_found, found_is}
use Rattle.cad_parse_type.proofs.ListLaws.{maybe_sound}
use Rattle.cad_parse_expr.specs.Code.Reading.{expression}
use Rattle.cad_parse_expr.proofs.ExpressionLaws.{ExpressionLaws}
use Rattle.cad_parse_statement.specs.Code.Reading.{NamedValue}
use Rattle.cad_parse_statement.specs.Code.Reading as r

-- Name [ ":" TypeAnnotation ] Transfer Expression
pub data Valued : Spot → NamedValue → Spot → Type 0 where
  valued : {p q r u v : Spot} {n : Name} {a : Option Annotation} {t : Transfer} {e : ExprTree}
      → name p ≡ Some (n, q) → MaybeAnnotated q a r → transfer r ≡ Some (t, u) → Expression u e v
      → Valued p (record { name = n; annotation = a; transfer = t; value = e }) v

pub test_made : {p q v : Spot} {found : VariableKind} {b : NamedValue} → variable_word p ≡ Some (found, q) → Valued q b v → Tested p (r.binding found b) v
test_made f (valued n a t e) = g.binding f n a t e

pub variable_made : {p q v w : Spot} {found : VariableKind} {b : NamedValue} {second : Option SecondTree}
    → variable_word p ≡ Some (found, q) → Valued q b v → Seconded v second w
    → ReadsStmt p (tree.variable found b.name b.annotation b.transfer b.value second) w
variable_made f (valued n a t e) d = g.variable f n a t e d

abbrev pub ValuedAs : Spot → NamedValue × Spot → Type 0
ValuedAs p x = Valued p x.0 x.1

abbrev pub TestedAs : Spot → TestTree × Spot → Type 0
TestedAs p x = Tested p x.0 x.1

abbrev pub SecondedAs : Spot → Option SecondTree × Spot → Type 0
SecondedAs p x = Seconded p x.0 x.1

abbrev pub LoopsAs : Spot → (Option Name × Name) × Spot → Type 0
LoopsAs p x = Loops p x.0.0 x.0.1 x.1

pub loops_sound : (p : Spot) → IfFound (LoopsAs p) (r.loops p)
unfolding r.loops
loops_sound p =
    let P = LoopsAs p in
    then_found P (name p) _ (λ n e1. either_found P (after s.Comma n.1) _ _
    (λ q e2. then_found P (name q) _ (λ m e3. then_found P (keyword k.In m.1) _ (λ w e4. g.indexed e1 e2 e3 e4)))
    (λ _. then_found P (keyword k.In n.1) _ (λ w e2. g.over e1 e2)))

module _ (types : TypeLaws) (expressions : ExpressionLaws) where
  pub annotated_sound : (p : Spot) (x : Option Annotation × Spot) → r.maybe_annotated p ≡ Some x → MaybeAnnotated p x.0 x.1
  unfolding r.maybe_annotated
  annotated_sound p x e = maybe_sound (after s.Colon) annotation Annotated types.annotation_sound p x e

  pub named_value_sound : (p : Spot) → IfFound (ValuedAs p) (r.named_value p)
  unfolding r.named_value
  named_value_sound p =
      let P = ValuedAs p in
      then_found P (name p) _ (λ n e1. then_found P (r.maybe_annotated n.1) _ (λ a e2. then_found P (transfer a.1) _ (λ t e3. then_found P (expression t.1) _ (λ v e4.
      valued e1 (annotated_sound n.1 a e2) e3 (expressions.expression_sound t.1 v e4)))))

  pub tested_sound : (p : Spot) → IfFound (TestedAs p) (r.tested p)
  unfolding r.tested
  tested_sound p =
      let P = TestedAs p in
      either_found P (variable_word p) _ _
      (λ x e1. then_found P (r.named_value x.1) _ (λ b e2. test_made e1 (found_is (ValuedAs x.1) _ b (named_value_sound x.1) e2)))
      (λ no. then_found P (expression p) _ (λ v e1. g.expression_test no (expressions.expression_sound p v e1)))

  pub seconded_sound : (p : Spot) → IfFound (SecondedAs p) (r.seconded p)
  unfolding r.seconded
  seconded_sound p =
      let P = SecondedAs p in
      either_found P (transfer p) _ _ (λ t e1. then_found P (expression t.1) _ (λ v e2. g.second e1 (expressions.expression_sound t.1 v e2))) (λ no. g.no_second no)
