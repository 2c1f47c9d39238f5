-- Verdicts on programs and texts.
use Rattle.std.specs.Prelude.{ℕ, true, false, Option, Some, None, Result, Ok, Err, List, [], ◌∷◌}
use Rattle.std.proofs.Common.{◌≡◌, refl, sym, ◌∙◌, ap, subst, inl, inr}
use Rattle.std.specs.Result.{IfOk}
use Rattle.cad_syntax.specs.declared.address.Address.{Address}
use Rattle.cad_grammar.specs.Trees.{ProgramTree}
use Rattle.cad_grammar.specs.Views.{program_of}
use Rattle.cad_grammar.specs.declared.phase.Phase.{Phase}
use Rattle.cad_grammar.specs.declared.phase.Phase.TheVariants as phase
use Rattle.cad_parse.specs.Program.{Parses, Refuses}
use Rattle.cad_declarations.specs.Build.{build}
use Rattle.cad_declarations.specs.Imports.{ContractEntry}
use Rattle.cad_declarations.specs.Meets.{Each}
use Rattle.cad_declarations.specs.Tables.{ProgramTables}
use Rattle.cad_declarations.specs.Views.{tables_of, bodies_of}
use Rattle.cad_declarations.specs.declared.program.Checked.{Checked}
use Rattle.cad_declarations.specs.declared.stop.Rejected.{Rejected}
use Rattle.cad_declarations.specs.declared.stop.Stop.{Stop}
use Rattle.cad_typing.specs.Pieces.{Piece, program_pieces}
use Rattle.cad_typing.specs.Programs.{IsRight, IllTyped, program_bodies}
use Rattle.cad_acceptance.specs.Acceptance.{Accepts, AcceptsText, checked_of}
use Rattle.cad_acceptance.specs.Phases.{Passes, Stops, phases}
use Rattle.cad_heights.specs.Programs.{is_too_high}
use Rattle.cad_acceptance.specs.Stops.{Subject, subject, as_a_whole, tables_if, subject_tables, ProgramStops, ProgramStop, FirstStop}
use Rattle.cad_table_laws.specs.Laws.{ImportsAreEnough}
use Rattle.cad_check.specs.Answers.{FirstRefusal, Verdict, TextVerdict}

-- a refusal that comes first is one of a phase that judges by tables
pub first_stops : (s : Subject) (tables : ProgramTables) (p : Phase) (stop : Stop) → subject_tables s ≡ Ok tables
    → FirstRefusal tables s.program (Some (p, stop)) → ProgramStops s p stop
first_stops s tables phase.Lex stop builds h = absurd h.1
first_stops s tables phase.Parse stop builds h = absurd h.1
first_stops s tables phase.Resolve stop builds h = absurd h.1
first_stops s tables phase.Types stop builds h = record { tables = tables; builds = builds; passed = h.0; stops = h.1 }
first_stops s tables phase.Conformance stop builds h = record { tables = tables; builds = builds; passed = h.0; stops = h.1 }
first_stops s tables phase.Moves stop builds h = record { tables = tables; builds = builds; passed = h.0; stops = h.1 }
first_stops s tables phase.Purity stop builds h = record { tables = tables; builds = builds; passed = h.0; stops = h.1 }
first_stops s tables phase.Initialisation stop builds h = record { tables = tables; builds = builds; passed = h.0; stops = h.1 }

-- ---- one program

module _ (s : Subject) (program : ProgramTree) (is : s.program ≡ program) (tables : ProgramTables) (builds : subject_tables s ≡ Ok tables) where
  pub refused : (p : Phase) (stop : Stop) (r : Rejected) → r ≡ record { phase = p; inside = stop.inside; at = stop.at }
      → FirstRefusal tables program (Some (p, stop)) → ProgramStop s r
  refused p stop r told h =
      subst (ProgramStop s) (sym told) (first_stops s tables p stop builds (subst (λ (t : ProgramTree). FirstRefusal tables t (Some (p, stop))) (sym is) h))

  pub accepted : (checked : Checked) → program ≡ program_of checked.program → tables ≡ tables_of checked.tables → FirstRefusal tables program None
      → bodies_of checked.bodies ≡ program_bodies tables program → Accepts s (checked_of checked)
  accepted checked same_program same_tables h made = record {
    tables = tables;
    builds = builds;
    passes = subst (λ (t : ProgramTree). FirstRefusal tables t None) (sym is) h;
    elaborated = λ i. record {
      program = (sym same_program ∙ sym is) i;
      tables = (sym same_tables) i;
      bodies = (made ∙ ap (program_bodies tables) (sym is)) i;
    };
  }

-- the pieces of a program that no phase refuses are well-typed
pub well_typed : (tables : ProgramTables) (program : ProgramTree) (pieces : List Piece) → pieces ≡ program_pieces tables program
    → FirstRefusal tables program None → Each (IsRight IllTyped) pieces
well_typed tables program pieces is h = subst (λ (all : List Piece). Each (IsRight IllTyped) all) (sym is) h.0

-- ---- beside the contracts that are imported

pub subject_built : ImportsAreEnough → (deployed : List ContractEntry) (place : Option Address) (program : ProgramTree) (made : Result ProgramTables Stop)
    → is_too_high program ≡ false → made ≡ build deployed place program → subject_tables (subject deployed place program) ≡ made
subject_built enough deployed place program made low is =
    ap (λ b. tables_if b (subject deployed place program)) low ∙ enough deployed place program ∙ sym is

pub subject_high : (deployed : List ContractEntry) (place : Option Address) (program : ProgramTree)
    → is_too_high program ≡ true → subject_tables (subject deployed place program) ≡ Err as_a_whole
subject_high deployed place program high = ap (λ b. tables_if b (subject deployed place program)) high

-- ---- texts

pub text_verdict : (deployed : List ContractEntry) (place : Option Address) (text : List ℕ) (program : ProgramTree) (verdict : Result Checked Rejected)
    → Parses text program → Verdict (subject deployed place program) verdict → TextVerdict deployed place text verdict
text_verdict deployed place text program (Ok checked) parses h = record { program = program; parses = parses; accepts = h }
text_verdict deployed place text program (Err rejected) parses h = inr (record { program = program; parses = parses; stop = h })

pub unread_text : (deployed : List ContractEntry) (place : Option Address) (text : List ℕ) (p : Phase) (n : ℕ) (r : Rejected)
    → r.phase ≡ p → r.inside ≡ [] → r.at ≡ n → Refuses text p n → FirstStop deployed place text r
unread_text deployed place text p n r a b c h =
    inl (record { refuses = subst (λ (q : Phase). Refuses text q r.at) (sym a) (subst (Refuses text p) (sym c) h); inside = b })

-- ---- as the code tells it, where there is memory

-- of any subject with these tables
pub subject_told : {E : Type 0} (s : Subject) (program : ProgramTree) (tables : ProgramTables) (r : Result (Result Checked Rejected) E)
    → IfOk r (λ verdict. (other : Subject) → other.program ≡ program → subject_tables other ≡ Ok tables → Verdict other verdict)
    → s.program ≡ program → subject_tables s ≡ Ok tables → IfOk r (λ verdict. Verdict s verdict)
subject_told s program tables (Ok verdict) h is builds = h s is builds
subject_told s program tables (Err x) h is builds = tt

-- names that aren't there
pub unresolved : (s : Subject) (stop : Stop) (r : Rejected) → r ≡ record { phase = phase.Resolve; inside = stop.inside; at = stop.at }
    → subject_tables s ≡ Err stop → ProgramStop s r
unresolved s stop r told h = subst (ProgramStop s) (sym told) h

pub text_told : {E : Type 0} (deployed : List ContractEntry) (place : Option Address) (text : List ℕ) (program : ProgramTree) (r : Result (Result Checked Rejected) E)
    → Parses text program → IfOk r (λ verdict. Verdict (subject deployed place program) verdict) → IfOk r (λ verdict. TextVerdict deployed place text verdict)
text_told deployed place text program (Ok verdict) parses h = text_verdict deployed place text program verdict parses h
text_told deployed place text program (Err x) parses h = tt
