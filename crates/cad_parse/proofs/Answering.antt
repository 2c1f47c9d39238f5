-- What parse_program answers.
use Rattle.std.proofs.Common.{◌≡◌, ℕ, List, [], ◌∷◌, length, Result, Ok, Err, IfOk, refl, sym, ◌∙◌, subst, arith}
use Rattle.cad_grammar.specs.declared.token.Token.{Token}
use Rattle.cad_grammar.specs.Lexes.{Lexes, Stops}
use Rattle.cad_grammar.specs.declared.phase.Phase.{Phase}
use Rattle.cad_grammar.specs.declared.phase.Phase.TheVariants.{Lex, Parse}
use Rattle.cad_grammar.specs.declared.declaration.Program.{Program}
use Rattle.cad_grammar.specs.Trees.{ProgramTree}
use Rattle.cad_grammar.specs.Views.{program_of}
use Rattle.cad_grammar.specs.ProgramGrammar.{Spells}
use Rattle.cad_parse.specs.Program.{Parses, EndsAt, Refuses}
use Rattle.cad_grammar.specs.declared.phase.ParseStop.{ParseStop}
use Rattle.cad_grammar.specs.declared.phase.ParseStop.TheVariants.{At}

-- a stop at a place of a phase
pub phase_same : {phase other : Phase} {m n : ℕ} → ◌≡◌ {A = Result Program ParseStop} (Err (At phase m)) (Err (At other n)) → phase ≡ other
phase_same e = cc e

pub place_same : {phase other : Phase} {m n : ℕ} → ◌≡◌ {A = Result Program ParseStop} (Err (At phase m)) (Err (At other n)) → m ≡ n
place_same e = cc e

pub parsed : (text : List ℕ) (tokens : List Token) → Lexes text tokens → (r : Result Program ParseStop) → IfOk r (λ program. Spells tokens (program_of program)) → IfOk r (λ program. Parses text (program_of program))
parsed text tokens lexes (Ok program) h = record { tokens = tokens; lexes = lexes; spells = h }
parsed text tokens lexes (Err e) h = tt

pub accepted : (text : List ℕ) (never : (tree : ProgramTree) → Parses text tree → (phase : Phase) (n : ℕ) → Refuses text phase n → ⊥) → (r : Result Program ParseStop)
    → IfOk r (λ program. Parses text (program_of program)) → IfOk r (λ program. (phase : Phase) (n : ℕ) → Refuses text phase n → ⊥)
accepted text never (Ok program) h = never (program_of program) h
accepted text never (Err e) h = tt

pub stopped : (text : List ℕ) (tokens : List Token) → Lexes text tokens → (phase : Phase) (n : ℕ) → (phase ≡ Parse) × ((tree : ProgramTree) → Spells tokens tree → ⊥) × EndsAt tokens n → Refuses text phase n
stopped text tokens lexes phase n h = subst (λ p. Refuses text p n) (sym h.0) (record { tokens = tokens; lexes = lexes; none = h.1; ends = h.2 })

pub stopped_lexing : (text : List ℕ) (phase : Phase) (m n : ℕ) → Stops text m → ◌≡◌ {A = Result Program ParseStop} (Err (At Lex m)) (Err (At phase n)) → Refuses text phase n
stopped_lexing text phase m n h e = subst (λ p. Refuses text p n) (phase_same e) (subst (Stops text) (place_same e) h)

pub stopped_parsing : (tokens : List Token) (phase : Phase) (m n : ℕ) → ((tree : ProgramTree) → Spells tokens tree → ⊥) → EndsAt tokens m
    → ◌≡◌ {A = Result Program ParseStop} (Err (At Parse m)) (Err (At phase n)) → (phase ≡ Parse) × ((tree : ProgramTree) → Spells tokens tree → ⊥) × EndsAt tokens n
stopped_parsing tokens phase m n none ends e = (sym (phase_same e), none, subst (EndsAt tokens) (place_same e) ends)

pub no_tokens : (tokens : List Token) → length tokens ≡ 0 → tokens ≡ []
no_tokens [] e = refl
no_tokens (t ∷ ts) e = absurd (omega (arith, e))
