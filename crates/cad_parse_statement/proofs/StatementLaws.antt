-- What is read is spelled, and what is spelled is read.
use Rattle.std.proofs.Common.{◌≡◌, ◌<◌, ◌≤◌, List, length, Some}
use Rattle.cad_grammar.specs.Trees.{StmtTree}
use Rattle.cad_grammar.specs.Spots.{Spot}
use Rattle.cad_grammar.specs.StatementGrammar.{Block, Statements}
use Rattle.cad_parse_statement.specs.Code.Reading.{statements_in, block_in}

-- what stands between the readers of statements and the grammar
pub record StatementLaws : Type 0 where
  pub statements_sound : (p : Spot) (x : List StmtTree × Spot) → statements_in p ≡ Some x → Statements p x.0 x.1
  pub statements_exact : {p q : Spot} {all : List StmtTree} → Statements p all q → statements_in p ≡ Some (all, q)
  pub block_sound : (p : Spot) (x : List StmtTree × Spot) → block_in p ≡ Some x → Block p x.0 x.1
  pub block_exact : {p q : Spot} {all : List StmtTree} → Block p all q → block_in p ≡ Some (all, q)
  -- what holds of all that is spelled
  pub statements_shorter : {p q : Spot} {all : List StmtTree} → Statements p all q → length q.tokens ≤ length p.tokens
  pub statements_left : {p q : Spot} {all : List StmtTree} → Statements p all q → q.left ≡ p.left
  pub block_shorter : {p q : Spot} {all : List StmtTree} → Block p all q → length q.tokens < length p.tokens
  pub block_left : {p q : Spot} {all : List StmtTree} → Block p all q → q.left ≡ p.left
