-- The laws of statements.
use Rattle.std.proofs.Common.{◌≡◌, suc, List, Some, arith}
use Rattle.cad_grammar.specs.Trees.{StmtTree}
use Rattle.cad_grammar.specs.Spots.{Spot}
use Rattle.cad_grammar.specs.StatementGrammar.{Block, Statements}
use Rattle.cad_parse_type.proofs.Whole.{type_laws}
use Rattle.cad_parse_expr.proofs.Whole.{expression_laws}
use Rattle.cad_parse_statement.specs.Code.Reading.{statements_in, block_in, read}
use Rattle.cad_parse_statement.proofs.StatementLaws.{StatementLaws}
use Rattle.cad_parse_statement.proofs.Sound as sound
use Rattle.cad_parse_statement.proofs.Facts as facts
use Rattle.cad_parse_statement.proofs.Exact as exact

statements_sound : (p : Spot) (x : List StmtTree × Spot) → statements_in p ≡ Some x → Statements p x.0 x.1
unfolding statements_in
statements_sound p x e = sound.body_sound type_laws expression_laws (read (suc p.left)) (sound.read_sound type_laws expression_laws (suc p.left)) p x e

statements_exact : {p q : Spot} {all : List StmtTree} → Statements p all q → statements_in p ≡ Some (all, q)
unfolding statements_in
statements_exact {p} d = exact.body_exact type_laws expression_laws d (suc p.left) (omega arith)

block_sound : (p : Spot) (x : List StmtTree × Spot) → block_in p ≡ Some x → Block p x.0 x.1
unfolding block_in
block_sound p x e = sound.block_sound type_laws expression_laws (read (suc p.left)) (sound.read_sound type_laws expression_laws (suc p.left)) p x e

block_exact : {p q : Spot} {all : List StmtTree} → Block p all q → block_in p ≡ Some (all, q)
unfolding block_in
block_exact {p} d = exact.block_exact type_laws expression_laws d (suc p.left) (omega arith)

pub statement_laws : StatementLaws
statement_laws = record {
  statements_sound = statements_sound;
  statements_exact = λ d. statements_exact d;
  block_sound = block_sound;
  block_exact = λ d. block_exact d;
  statements_shorter = λ d. facts.statements_short type_laws expression_laws d;
  statements_left = λ d. facts.statements_left type_laws expression_laws d;
  block_shorter = λ d. facts.block_shorter type_laws expression_laws d;
  block_left = λ d. facts.block_left type_laws expression_laws d;
}
