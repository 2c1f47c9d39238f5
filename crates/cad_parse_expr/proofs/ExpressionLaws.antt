-- What is read is spelled, and what is spelled is read.
use Rattle.std.proofs.Common.{◌≡◌, ◌<◌, ◌≤◌, length, Some}
use Rattle.cad_grammar.specs.Trees.{ExprTree}
use Rattle.cad_grammar.specs.Spots.{Spot}
use Rattle.cad_parse_type.specs.Code.Levels.{token_strength, start}
use Rattle.cad_grammar.specs.ExpressionGrammar.{Expression}
use Rattle.cad_parse_type.proofs.Heads.{Ends}
use Rattle.cad_parse_type.proofs.TypeLaws.{Reaches}
use Rattle.cad_parse_expr.specs.Code.Reading.{expression}

-- what stands between the reader of expressions and the grammar
pub record ExpressionLaws : Type 0 where
  pub expression_sound : (p : Spot) (x : ExprTree × Spot) → expression p ≡ Some x → Expression p x.0 x.1
  -- where nothing follows that goes on after an expression
  pub expression_exact : {p q : Spot} {e : ExprTree} → Expression p e q → token_strength q ≡ 0 → expression p ≡ Some (e, q)
  -- the same or a longer one, whatever follows
  pub expression_reach : {p q : Spot} {e : ExprTree} → Expression p e q → Reaches (token_strength q ≡ 0) (expression p) e q
  pub expression_shorter : {p q : Spot} {e : ExprTree} → Expression p e q → length q.tokens < length p.tokens
  pub expression_left : {p q : Spot} {e : ExprTree} → Expression p e q → q.left ≡ p.left
  -- its first token begins an expression
  pub expression_starts : {p q : Spot} {e : ExprTree} → Expression p e q → 12 ≤ start p
  -- what is left is an end of the tokens
  pub expression_ends : {p q : Spot} {e : ExprTree} → Expression p e q → Ends p q
