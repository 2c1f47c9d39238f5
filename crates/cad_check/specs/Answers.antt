-- What the answers of a check say.
use Rattle.std.specs.Prelude.{◌≡◌, ℕ, Option, Some, None, Result, Ok, Err, List, unwrap_or}
use Rattle.cad_syntax.specs.declared.address.Address.{Address}
use Rattle.cad_syntax.specs.declared.text.Name.{Name}
use Rattle.cad_syntax.specs.declared.type_id.TypeId.{TypeId}
use Rattle.cad_grammar.specs.Trees.{ProgramTree}
use Rattle.cad_grammar.specs.declared.phase.Phase.{Phase}
use Rattle.cad_declarations.specs.Entries.{no_id}
use Rattle.cad_declarations.specs.Imports.{ContractEntry}
use Rattle.cad_declarations.specs.Meets.{Each, Conforms, Unmet}
use Rattle.cad_declarations.specs.Tables.{ProgramTables}
use Rattle.cad_declarations.specs.Typed as e
use Rattle.cad_declarations.specs.Views.{bodies_of}
use Rattle.cad_declarations.specs.declared.body.Bodies.{Bodies}
use Rattle.cad_declarations.specs.declared.program.Checked.{Checked}
use Rattle.cad_declarations.specs.declared.stop.Rejected.{Rejected}
use Rattle.cad_declarations.specs.declared.stop.Stop.{Stop}
use Rattle.cad_paths.specs.Fields.{rules_in}
use Rattle.cad_paths.specs.declared.letter.FieldRule.{FieldRule}
use Rattle.cad_paths.specs.declared.letter.Position.{Position}
use Rattle.cad_typing.specs.Pieces.{PieceBody, Piece, program_pieces}
use Rattle.cad_typing.specs.Programs.{program_bodies}
use Rattle.cad_acceptance.specs.Acceptance.{Accepts, AcceptsText, checked_of}
use Rattle.cad_acceptance.specs.Bodies.{MisMoved, Impure, Misset, MovesRefuse, PurityRefuses, InitialisationRefuses, Judged}
use Rattle.cad_acceptance.specs.Phases.{Passes, Stops, phases, phases_before}
use Rattle.cad_acceptance.specs.Stops.{Subject, ProgramStop, FirstStop}
use Rattle.cad_check.specs.declared.refusals.BodyPhase.{BodyPhase}
use Rattle.cad_check.specs.declared.refusals.BodyPhase.TheVariants as by

-- it tells one for which this holds, or there is none
abbrev pub Tells : {A : Type 0} → (A → Type 0) → Option A → Type 0
Tells {A} Holds None = (x : A) → Holds x → ⊥
Tells Holds (Some x) = Holds x

-- ---- bodies

abbrev pub body_refused : ProgramTables → BodyPhase → List Name → PieceBody → Stop → Type 0
body_refused tables by.Moves = MovesRefuse
body_refused tables by.Purity = PurityRefuses tables
body_refused tables by.Initialisation = InitialisationRefuses tables

-- what a phase refuses of a piece
abbrev pub piece_refused : ProgramTables → BodyPhase → Piece → Stop → Type 0
piece_refused tables phase p stop = Judged (body_refused tables phase) p.inside p.typing stop

-- an initializer sets the fields of its owner, and a transaction these
abbrev pub Unset : ProgramTables → Option TypeId → List FieldRule → e.PartBody → Position → Type 0
Unset tables owner rules (e.function_part f) at = ⊥
Unset tables owner rules (e.initializer_part f) at = Misset (rules_in tables (unwrap_or owner no_id)) (e.initializer_part f) at
Unset tables owner rules (e.transaction_part t) at = Misset rules (e.transaction_part t) at

-- what a phase refuses of a body, at a position
abbrev pub position_refused : ProgramTables → BodyPhase → Option TypeId → List FieldRule → e.PartBody → Position → Type 0
position_refused tables by.Moves owner rules = MisMoved
position_refused tables by.Purity owner rules = Impure tables
position_refused tables by.Initialisation owner rules = Unset tables owner rules

-- ---- programs

-- each type meets its interfaces, or the first that doesn't stops there
abbrev pub Conformance : ProgramTables → Option Stop → Type 0
Conformance tables None = Conforms tables
Conformance tables (Some stop) = Unmet tables stop

-- no phase refuses a program with these tables, or this one does first, there
abbrev pub FirstRefusal : ProgramTables → ProgramTree → Option (Phase × Stop) → Type 0
FirstRefusal tables program None = Each (Passes tables program) phases
FirstRefusal tables program (Some refusal) = Each (Passes tables program) (phases_before refusal.0) × Stops tables program refusal.0 refusal.1

-- the same of the pieces of a program
abbrev pub FirstOf : ProgramTables → List Piece → Option (Phase × Stop) → Type 0
FirstOf tables pieces refusal = (program : ProgramTree) → pieces ≡ program_pieces tables program → FirstRefusal tables program refusal

-- what is gathered of a program that no phase refuses is its bodies
abbrev pub Gathered : ProgramTables → ProgramTree → Result Bodies (Phase × Stop) → Type 0
Gathered tables program (Ok bodies) = FirstRefusal tables program None × (bodies_of bodies ≡ program_bodies tables program)
Gathered tables program (Err refusal) = FirstRefusal tables program (Some refusal)

-- the program is accepted, or refused first there
abbrev pub Verdict : Subject → Result Checked Rejected → Type 0
Verdict s (Ok checked) = Accepts s (checked_of checked)
Verdict s (Err rejected) = ProgramStop s rejected

-- so is a text
abbrev pub TextVerdict : List ContractEntry → Option Address → List ℕ → Result Checked Rejected → Type 0
TextVerdict deployed place text (Ok checked) = AcceptsText deployed place text (checked_of checked)
TextVerdict deployed place text (Err rejected) = FirstStop deployed place text rejected
