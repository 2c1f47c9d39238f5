-- What a list of tokens spells, and where reading stops.
use Rattle.std.specs.Prelude.{◌≡◌, ℕ, false, List, [], ◌∷◌, drop}
use Rattle.cad_grammar.specs.declared.token.Token.{Token}
use Rattle.cad_grammar.specs.declared.level.Level.TheVariants as level
use Rattle.cad_grammar.specs.declared.level.TypePosition.TheVariants as position
use Rattle.cad_grammar.specs.Trees.{TypeTree, ExprTree}
use Rattle.cad_grammar.specs.Spots.{Spot}
use Rattle.cad_grammar.specs.TypeGrammar.{ReadsType}
use Rattle.cad_grammar.specs.ExpressionGrammar.{Reads}
use Rattle.cad_parse_expr.specs.declared.cursor.Cursor.{Cursor}

-- the tokens from the cursor on
abbrev pub ahead : Cursor → List Token
ahead c = drop c.at c.tokens.now

-- before these tokens, where so many nestings may be opened
abbrev pub before : ℕ → List Token → Spot
before n tokens = record { left = n; after_name = false; tokens = tokens }

-- The tokens begin with those of an expression within so many nestings, and these are left behind it.
abbrev pub SpellsExpr : ℕ → List Token → ExprTree → List Token → Type 0
SpellsExpr n tokens e rest = (q : Spot) × Reads level.Conditional (before n tokens) e q × (q.tokens ≡ rest)

-- the same of a type
abbrev pub SpellsType : ℕ → List Token → TypeTree → List Token → Type 0
SpellsType n tokens t rest = (q : Spot) × ReadsType position.Anywhere (before n tokens) t q × (q.tokens ≡ rest)

abbrev pub last_end : List Token → ℕ
last_end [] = 0
last_end (t ∷ []) = t.end
last_end (t ∷ u ∷ tokens) = last_end (u ∷ tokens)

-- Where the next token stands, or the end of the last of all.
abbrev pub place : List Token → List Token → ℕ
place tokens [] = last_end tokens
place tokens (t ∷ rest) = t.start
