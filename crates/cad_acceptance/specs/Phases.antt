-- The phases behind the tables, in their order: what passes each, and where each stops first.
use Rattle.std.specs.Prelude.{List, [], ◌∷◌}
use Rattle.cad_grammar.specs.Trees.{ProgramTree}
use Rattle.cad_grammar.specs.declared.phase.Phase.{Phase}
use Rattle.cad_grammar.specs.declared.phase.Phase.TheVariants as phase
use Rattle.cad_declarations.specs.Meets.{Each, Conforms, Unmet}
use Rattle.cad_declarations.specs.Tables.{ProgramTables}
use Rattle.cad_declarations.specs.declared.stop.Stop.{Stop}
use Rattle.cad_acceptance.specs.Bodies.{InMoves, InPurity, InInitialisation}
use Rattle.cad_typing.specs.Pieces.{program_pieces}
use Rattle.cad_typing.specs.Programs.{IsRight, FirstRefused, WellTyped, TypesStop}

-- The phase refuses nothing of a program with these tables. The first three phases come before the tables.
abbrev pub Passes : ProgramTables → ProgramTree → Phase → Type 0
Passes tables program phase.Types = WellTyped tables program
Passes tables program phase.Conformance = Conforms tables
Passes tables program phase.Moves = Each (IsRight InMoves) (program_pieces tables program)
Passes tables program phase.Purity = Each (IsRight (InPurity tables)) (program_pieces tables program)
Passes tables program phase.Initialisation = Each (IsRight (InInitialisation tables)) (program_pieces tables program)
Passes tables program _ = Unit {0}

-- the phase refuses the program, first at this place
abbrev pub Stops : ProgramTables → ProgramTree → Phase → Stop → Type 0
Stops tables program phase.Types stop = TypesStop tables program stop
Stops tables program phase.Conformance stop = Unmet tables stop
Stops tables program phase.Moves stop = FirstRefused InMoves (program_pieces tables program) stop
Stops tables program phase.Purity stop = FirstRefused (InPurity tables) (program_pieces tables program) stop
Stops tables program phase.Initialisation stop = FirstRefused (InInitialisation tables) (program_pieces tables program) stop
Stops tables program _ stop = ⊥

-- the phases that judge a program by its tables, in their order
abbrev pub phases : List Phase
phases = phase.Types ∷ phase.Conformance ∷ phase.Moves ∷ phase.Purity ∷ phase.Initialisation ∷ []

-- those before a phase
abbrev pub phases_before : Phase → List Phase
phases_before phase.Conformance = phase.Types ∷ []
phases_before phase.Moves = phase.Types ∷ phase.Conformance ∷ []
phases_before phase.Purity = phase.Types ∷ phase.Conformance ∷ phase.Moves ∷ []
phases_before phase.Initialisation = phase.Types ∷ phase.Conformance ∷ phase.Moves ∷ phase.Purity ∷ []
phases_before _ = []
