-- Where a program, or a text, is refused first.
use Rattle.std.specs.Prelude.{◌≡◌, ◌⊎◌, ℕ, Bool, true, false, Option, Result, Ok, Err, List, []}
use Rattle.cad_syntax.specs.declared.address.Address.{Address}
use Rattle.cad_grammar.specs.Trees.{ProgramTree}
use Rattle.cad_grammar.specs.declared.phase.Phase.{Phase}
use Rattle.cad_grammar.specs.declared.phase.Phase.TheVariants as phase
use Rattle.cad_heights.specs.Programs.{is_too_high}
use Rattle.cad_parse.specs.Program.{Parses, Refuses}
use Rattle.cad_declarations.specs.Build.{build, stop_at}
use Rattle.cad_declarations.specs.Imports.{ContractEntry, all_imported, closure}
use Rattle.cad_declarations.specs.Meets.{Each}
use Rattle.cad_declarations.specs.Tables.{ProgramTables}
use Rattle.cad_declarations.specs.declared.stop.Rejected.{Rejected}
use Rattle.cad_declarations.specs.declared.stop.Stop.{Stop}
use Rattle.cad_acceptance.specs.Phases.{Passes, Stops, phases_before}

-- What is judged: a program at a place, or at none, beside the contracts that it imports, at any depth.
pub record Subject : Type 0 where
  pub imports : List ContractEntry
  pub place : Option Address
  pub program : ProgramTree

-- Of all contracts that are deployed a program is judged beside those that it imports.
abbrev pub subject : List ContractEntry → Option Address → ProgramTree → Subject
subject deployed place program = record { imports = closure deployed (all_imported program.imports); place = place; program = program }

-- A program is refused as a whole where an expression of it has too many levels.
abbrev pub as_a_whole : Stop
as_a_whole = stop_at [] 0

abbrev pub tables_if : Bool → Subject → Result ProgramTables Stop
tables_if true s = Err as_a_whole
tables_if false s = build s.imports s.place s.program

-- its tables, or where it is too high, or its names are refused
abbrev pub subject_tables : Subject → Result ProgramTables Stop
subject_tables s = tables_if (is_too_high s.program) s

-- The names are all there, each phase before this one refuses nothing, and this one stops.
pub record StopsFirst (s : Subject) (phase : Phase) (stop : Stop) : Type 0 where
  pub tables : ProgramTables
  pub builds : subject_tables s ≡ Ok tables
  pub passed : Each (Passes tables s.program) (phases_before phase)
  pub stops : Stops tables s.program phase stop

abbrev pub ProgramStops : Subject → Phase → Stop → Type 0
ProgramStops s phase.Lex stop = ⊥
ProgramStops s phase.Parse stop = ⊥
ProgramStops s phase.Resolve stop = subject_tables s ≡ Err stop
ProgramStops s phase.Types stop = StopsFirst s phase.Types stop
ProgramStops s phase.Conformance stop = StopsFirst s phase.Conformance stop
ProgramStops s phase.Moves stop = StopsFirst s phase.Moves stop
ProgramStops s phase.Purity stop = StopsFirst s phase.Purity stop
ProgramStops s phase.Initialisation stop = StopsFirst s phase.Initialisation stop

abbrev pub stop_of : Rejected → Stop
stop_of r = record { inside = r.inside; at = r.at }

-- The program is refused first by this phase, there.
abbrev pub ProgramStop : Subject → Rejected → Type 0
ProgramStop s r = ProgramStops s r.phase (stop_of r)

-- a text that is no program: no names are told, and the place is one in the text
pub record Unread (text : List ℕ) (r : Rejected) : Type 0 where
  pub refuses : Refuses text r.phase r.at
  pub inside : r.inside ≡ []

-- a text that is a program
pub record Refused (deployed : List ContractEntry) (place : Option Address) (text : List ℕ) (r : Rejected) : Type 0 where
  pub program : ProgramTree
  pub parses : Parses text program
  pub stop : ProgramStop (subject deployed place program) r

-- The text is refused first by this phase, there.
abbrev pub FirstStop : List ContractEntry → Option Address → List ℕ → Rejected → Type 0
FirstStop deployed place text r = Unread text r ⊎ Refused deployed place text r
