-- Which texts are programs, and where the others stop.
use Rattle.std.specs.Prelude.{◌≡◌, ℕ, ◌≤◌, List, ◌∷◌, length}
use Rattle.cad_grammar.specs.declared.token.Token.{Token}
use Rattle.cad_grammar.specs.Lexes.{Lexes, Stops}
use Rattle.cad_grammar.specs.declared.phase.Phase.{Phase}
use Rattle.cad_grammar.specs.declared.phase.Phase.TheVariants.{Lex, Parse}
use Rattle.cad_grammar.specs.Trees.{ProgramTree}
use Rattle.cad_grammar.specs.Spots.{Spot}
use Rattle.cad_grammar.specs.ProgramGrammar.{ReadsProgram, begin, Spells}

-- The text is this program.
pub record Parses (text : List ℕ) (program : ProgramTree) : Type 0 where
  pub tokens : List Token
  pub lexes : Lexes text tokens
  pub spells : Spells tokens program

-- At n begins the token that follows the longest prefix of these tokens that is itself a program.
pub record EndsAt (tokens : List Token) (n : ℕ) : Type 0 where
  pub program : ProgramTree
  pub end : Spot
  pub token : Token
  pub rest : List Token
  pub reads : ReadsProgram (begin tokens) program end
  pub longest : (other : ProgramTree) (q : Spot) → ReadsProgram (begin tokens) other q → length end.tokens ≤ length q.tokens
  pub left : end.tokens ≡ token ∷ rest
  pub place : token.start ≡ n

-- Its tokens spell no program.
pub record Unparsed (text : List ℕ) (n : ℕ) : Type 0 where
  pub tokens : List Token
  pub lexes : Lexes text tokens
  pub none : (program : ProgramTree) → Spells tokens program → ⊥
  pub ends : EndsAt tokens n

-- The text is no program: this phase stops at this place. No later one does so.
abbrev pub Refuses : List ℕ → Phase → ℕ → Type 0
Refuses text Lex n = Stops text n
Refuses text Parse n = Unparsed text n
Refuses text _ n = ⊥
