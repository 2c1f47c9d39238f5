-- A phase that refuses nothing has no first stop.
use Rattle.std.proofs.Common.{◌≡◌, refl, sym, ◌∙◌, ap, subst, List, [], ◌∷◌, ◌++◌}
use Rattle.std.specs.Prelude.{Result, Ok, Err}
use Rattle.cad_grammar.specs.Trees.{ProgramTree}
use Rattle.cad_grammar.specs.declared.phase.Phase.{Phase}
use Rattle.cad_grammar.specs.declared.phase.Phase.TheVariants as phase
use Rattle.cad_declarations.specs.Meets.{Each, Meets, Conforms, Unmet}
use Rattle.cad_declarations.specs.Tables.{TypeEntry, ProgramTables}
use Rattle.cad_declarations.specs.declared.stop.Rejected.{Rejected}
use Rattle.cad_declarations.specs.declared.stop.Stop.{Stop}
use Rattle.cad_declarations.specs.Kinds.{kinds_of}
use Rattle.cad_typing.specs.Pieces.{Piece, program_pieces}
use Rattle.cad_typing.specs.Programs.{IsRight, FirstRefused, IllTyped}
use Rattle.cad_acceptance.specs.Bodies.{InMoves, InPurity, InInitialisation}
use Rattle.cad_acceptance.specs.Acceptance.{CheckedProgram, Accepts}
use Rattle.cad_acceptance.specs.Laws.{AcceptedHaveNoStop}
use Rattle.cad_acceptance.specs.Phases.{Passes, Stops, phases}
use Rattle.cad_acceptance.specs.Stops.{Subject, StopsFirst, ProgramStops, ProgramStop, subject_tables, stop_of}

each_at : {X : Type 0} (P : X → Type 0) (before : List X) (x : X) (after : List X) → Each P (before ++ (x ∷ after)) → P x
each_at P [] x after e = e.0
each_at P (y ∷ ys) x after e = each_at P ys x after e.1

-- where each piece is right none is refused
none_refused : (Refused : Piece → Stop → Type 0) (pieces : List Piece) (stop : Stop) → Each (IsRight Refused) pieces → FirstRefused Refused pieces stop → ⊥
none_refused Refused pieces stop each first =
    each_at (IsRight Refused) first.before first.piece first.after (subst (λ (l : List Piece). Each (IsRight Refused) l) first.split each) stop first.refused

all_meet : (tables : ProgramTables) (stop : Stop) → Conforms tables → Unmet tables stop → ⊥
all_meet tables stop each first =
    first.1.unmet (each_at (Meets (kinds_of tables) tables.types) first.1.before first.0 first.1.after
    (subst (λ (l : List TypeEntry). Each (Meets (kinds_of tables) tables.types) l) first.1.split each))

-- a phase that passes doesn't stop
pub passes_no_stop : (tables : ProgramTables) (program : ProgramTree) (p : Phase) (stop : Stop) → Passes tables program p → Stops tables program p stop → ⊥
passes_no_stop tables program phase.Lex stop passes stops = stops
passes_no_stop tables program phase.Parse stop passes stops = stops
passes_no_stop tables program phase.Resolve stop passes stops = stops
passes_no_stop tables program phase.Types stop passes stops = none_refused IllTyped (program_pieces tables program) stop passes stops
passes_no_stop tables program phase.Conformance stop passes stops = all_meet tables stop passes stops
passes_no_stop tables program phase.Moves stop passes stops = none_refused InMoves (program_pieces tables program) stop passes stops
passes_no_stop tables program phase.Purity stop passes stops = none_refused (InPurity tables) (program_pieces tables program) stop passes stops
passes_no_stop tables program phase.Initialisation stop passes stops = none_refused (InInitialisation tables) (program_pieces tables program) stop passes stops

-- two equations of one result
abbrev IsOk : ProgramTables → Result ProgramTables Stop → Type 0
IsOk tables (Ok other) = tables ≡ other
IsOk tables (Err stop) = ⊥

pub same_tables : (s : Subject) (a b : ProgramTables) → subject_tables s ≡ Ok a → subject_tables s ≡ Ok b → a ≡ b
same_tables s a b first second = subst (IsOk a) (sym first ∙ second) refl

pub no_error : (s : Subject) (a : ProgramTables) (stop : Stop) → subject_tables s ≡ Ok a → subject_tables s ≡ Err stop → ⊥
no_error s a stop first second = subst (IsOk a) (sym first ∙ second) refl

by_tables : (s : Subject) (checked : CheckedProgram) (p : Phase) (stop : Stop) (accepted : Accepts s checked) → Passes accepted.tables s.program p → StopsFirst s p stop → ⊥
by_tables s checked p stop accepted passes first =
    passes_no_stop first.tables s.program p stop
    (subst (λ (t : ProgramTables). Passes t s.program p) (same_tables s accepted.tables first.tables accepted.builds first.builds) passes) first.stops

no_stop : (s : Subject) (checked : CheckedProgram) (p : Phase) (stop : Stop) → Accepts s checked → ProgramStops s p stop → ⊥
no_stop s checked phase.Lex stop accepted stops = stops
no_stop s checked phase.Parse stop accepted stops = stops
no_stop s checked phase.Resolve stop accepted stops = no_error s accepted.tables stop accepted.builds stops
no_stop s checked phase.Types stop accepted stops = by_tables s checked phase.Types stop accepted accepted.passes.0 stops
no_stop s checked phase.Conformance stop accepted stops = by_tables s checked phase.Conformance stop accepted accepted.passes.1.0 stops
no_stop s checked phase.Moves stop accepted stops = by_tables s checked phase.Moves stop accepted accepted.passes.1.1.0 stops
no_stop s checked phase.Purity stop accepted stops = by_tables s checked phase.Purity stop accepted accepted.passes.1.1.1.0 stops
no_stop s checked phase.Initialisation stop accepted stops = by_tables s checked phase.Initialisation stop accepted accepted.passes.1.1.1.1.0 stops

pub accepted_no_stop : AcceptedHaveNoStop
accepted_no_stop s checked r accepted stops = no_stop s checked r.phase (stop_of r) accepted stops
