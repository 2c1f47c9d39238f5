-- A text is refused by one phase, and at one place.
use Rattle.std.proofs.Common.{◌≡◌, refl, sym, ◌∙◌, ap, subst, ◌⊎◌, inl, inr, ℕ, List, []}
use Rattle.std.specs.Prelude.{Option}
use Rattle.cad_syntax.specs.declared.address.Address.{Address}
use Rattle.cad_syntax.specs.declared.text.Name.{Name}
use Rattle.cad_grammar.specs.Lexes.{Lexes, Stops}
use Rattle.cad_grammar.specs.ProgramGrammar.{Spells}
use Rattle.cad_grammar.specs.Trees.{ProgramTree}
use Rattle.cad_grammar.specs.declared.phase.Phase.{Phase}
use Rattle.cad_grammar.specs.declared.phase.Phase.TheVariants as phase
use Rattle.cad_grammar.specs.declared.token.Token.{Token}
use Rattle.cad_parse.specs.Program.{Parses, Refuses}
use Rattle.cad_declarations.specs.Imports.{ContractEntry}
use Rattle.cad_declarations.specs.declared.stop.Rejected.{Rejected}
use Rattle.cad_acceptance.specs.Stops.{ProgramStop, Unread, Refused, FirstStop, subject}
use Rattle.cad_acceptance.specs.Acceptance.{CheckedProgram, AcceptsText}
use Rattle.cad_acceptance.specs.Laws.{AcceptedHaveNoStop}
use Rattle.cad_check.specs.Laws.{AcceptedTextsHaveNoStop, OneFirstStop}
use Rattle.cad_check.proofs.Unique.{one_program_stop}

abbrev OneLexing : Type 0
OneLexing = (text : List ℕ) (a b : List Token) → Lexes text a → Lexes text b → a ≡ b

abbrev NoLexing : Type 0
NoLexing = (text : List ℕ) (n : ℕ) (tokens : List Token) → Stops text n → Lexes text tokens → ⊥

abbrev OneParsing : Type 0
OneParsing = (text : List ℕ) (a b : ProgramTree) → Parses text a → Parses text b → a ≡ b

abbrev OneRefusal : Type 0
OneRefusal = (text : List ℕ) (p q : Phase) (m n : ℕ) → Refuses text p m → Refuses text q n → (p ≡ q) × (m ≡ n)

-- a text that is a program isn't refused
not_both : OneLexing → NoLexing → (text : List ℕ) (program : ProgramTree) (p : Phase) (n : ℕ) → Parses text program → Refuses text p n → ⊥
not_both lexing none text program phase.Lex n h k = none text n h.tokens k h.lexes
not_both lexing none text program phase.Parse n h k =
    k.none program (subst (λ (t : List Token). Spells t program) (lexing text h.tokens k.tokens h.lexes k.lexes) h.spells)
not_both lexing none text program phase.Resolve n h k = k
not_both lexing none text program phase.Types n h k = k
not_both lexing none text program phase.Conformance n h k = k
not_both lexing none text program phase.Moves n h k = k
not_both lexing none text program phase.Purity n h k = k
not_both lexing none text program phase.Initialisation n h k = k

rejection : Phase → List Name → ℕ → Rejected
rejection p names n = record { phase = p; inside = names; at = n }

unread_once : OneRefusal → (text : List ℕ) (a b : Rejected) → Unread text a → Unread text b → a ≡ b
unfolding rejection
unread_once one text a b h k =
    let g = one text a.phase b.phase a.at b.at h.refuses k.refuses in
    let names : a.inside ≡ b.inside = h.inside ∙ sym k.inside in
    λ i. rejection (g.0 i) (names i) (g.1 i)

refused_once : OneParsing → (deployed : List ContractEntry) (place : Option Address) (text : List ℕ) (a b : Rejected)
    → Refused deployed place text a → Refused deployed place text b → a ≡ b
refused_once one deployed place text a b h k =
    one_program_stop (subject deployed place k.program) a b
    (subst (λ (p : ProgramTree). ProgramStop (subject deployed place p) a) (one text h.program k.program h.parses k.parses) h.stop) k.stop

pub one_first_stop : OneLexing → NoLexing → OneParsing → OneRefusal → OneFirstStop
one_first_stop lexing none parsing refusal deployed place text a b (inl h) (inl k) = unread_once refusal text a b h k
one_first_stop lexing none parsing refusal deployed place text a b (inl h) (inr k) = absurd (not_both lexing none text k.program a.phase a.at k.parses h.refuses)
one_first_stop lexing none parsing refusal deployed place text a b (inr h) (inl k) = absurd (not_both lexing none text h.program b.phase b.at h.parses k.refuses)
one_first_stop lexing none parsing refusal deployed place text a b (inr h) (inr k) = refused_once parsing deployed place text a b h k

pub accepted_text : OneLexing → NoLexing → OneParsing → AcceptedHaveNoStop → AcceptedTextsHaveNoStop
accepted_text lexing none parsing no_stop deployed place text checked r accepted (inl h) =
    not_both lexing none text accepted.program r.phase r.at accepted.parses h.refuses
accepted_text lexing none parsing no_stop deployed place text checked r accepted (inr h) =
    no_stop (subject deployed place accepted.program) checked r accepted.accepts
    (subst (λ (p : ProgramTree). ProgramStop (subject deployed place p) r) (parsing text h.program accepted.program h.parses accepted.parses) h.stop)
