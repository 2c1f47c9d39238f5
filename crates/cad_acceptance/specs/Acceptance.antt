-- Which programs are accepted, and what is made of them.
use Rattle.std.specs.Prelude.{◌≡◌, ℕ, Option, Ok, List}
use Rattle.cad_syntax.specs.declared.address.Address.{Address}
use Rattle.cad_grammar.specs.Trees.{ProgramTree}
use Rattle.cad_grammar.specs.Views.{program_of}
use Rattle.cad_parse.specs.Program.{Parses}
use Rattle.cad_declarations.specs.Imports.{ContractEntry}
use Rattle.cad_declarations.specs.Meets.{Each}
use Rattle.cad_declarations.specs.Tables.{ProgramTables}
use Rattle.cad_declarations.specs.Typed.{ProgramBodies}
use Rattle.cad_declarations.specs.Views.{tables_of, bodies_of}
use Rattle.cad_declarations.specs.declared.program.Checked.{Checked}
use Rattle.cad_typing.specs.Programs.{program_bodies}
use Rattle.cad_acceptance.specs.Phases.{Passes, phases}
use Rattle.cad_acceptance.specs.Stops.{Subject, subject, subject_tables}

-- a program with its tables and the elaborated bodies of what it declares
pub record CheckedProgram : Type 0 where
  pub program : ProgramTree
  pub tables : ProgramTables
  pub bodies : ProgramBodies

abbrev pub checked_of : Checked → CheckedProgram
checked_of x = record { program = program_of x.program; tables = tables_of x.tables; bodies = bodies_of x.bodies }

-- what a program with these tables is checked to
abbrev pub checked_with : ProgramTree → ProgramTables → CheckedProgram
checked_with program tables = record { program = program; tables = tables; bodies = program_bodies tables program }

-- No phase refuses the program, and this is what it is checked to.
pub record Accepts (s : Subject) (checked : CheckedProgram) : Type 0 where
  pub tables : ProgramTables
  pub builds : subject_tables s ≡ Ok tables
  pub passes : Each (Passes tables s.program) phases
  pub elaborated : checked ≡ checked_with s.program tables

-- The text is a program that is accepted.
pub record AcceptsText (deployed : List ContractEntry) (place : Option Address) (text : List ℕ) (checked : CheckedProgram) : Type 0 where
  pub program : ProgramTree
  pub parses : Parses text program
  pub accepts : Accepts (subject deployed place program) checked
