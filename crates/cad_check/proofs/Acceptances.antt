-- A text is checked to one program.
use Rattle.std.proofs.Common.{◌≡◌, ℕ, List, Result, Ok, sym, ◌∙◌, ap, subst}
use Rattle.std.specs.Prelude.{Option}
use Rattle.cad_syntax.specs.declared.address.Address.{Address}
use Rattle.cad_grammar.specs.Trees.{ProgramTree}
use Rattle.cad_parse.specs.Program.{Parses}
use Rattle.cad_declarations.specs.Tables.{ProgramTables}
use Rattle.cad_declarations.specs.declared.stop.Stop.{Stop}
use Rattle.cad_acceptance.specs.Acceptance.{CheckedProgram, Accepts, AcceptsText, checked_with}
use Rattle.cad_acceptance.specs.Stops.{Subject, subject, subject_tables}
use Rattle.cad_check.specs.Laws.{OneAcceptance}

same_tables : (r : Result ProgramTables Stop) (x y : ProgramTables) → r ≡ Ok x → r ≡ Ok y → x ≡ y
same_tables r x y e f = let o = sym e ∙ f in cc o

accepted_once : (s : Subject) (x y : CheckedProgram) → Accepts s x → Accepts s y → x ≡ y
accepted_once s x y h k = h.elaborated ∙ ap (checked_with s.program) (same_tables (subject_tables s) h.tables k.tables h.builds k.builds) ∙ sym k.elaborated

pub one_acceptance : ((text : List ℕ) (a b : ProgramTree) → Parses text a → Parses text b → a ≡ b) → OneAcceptance
one_acceptance one deployed place text x y h k =
    accepted_once (subject deployed place k.program) x y
    (subst (λ (p : ProgramTree). Accepts (subject deployed place p) x) (one text h.program k.program h.parses k.parses) h.accepts) k.accepts
