-- What first stops have to do with each other.
use Rattle.std.specs.Prelude.{◌≡◌, ℕ, Option, List}
use Rattle.cad_syntax.specs.declared.address.Address.{Address}
use Rattle.cad_declarations.specs.Imports.{ContractEntry}
use Rattle.cad_declarations.specs.declared.stop.Rejected.{Rejected}
use Rattle.cad_acceptance.specs.Acceptance.{CheckedProgram, AcceptsText}
use Rattle.cad_acceptance.specs.Stops.{Subject, ProgramStop, FirstStop}

-- a program is refused by one phase, and at one place
abbrev pub OneProgramStop : Type 0
OneProgramStop = (s : Subject) (a b : Rejected) → ProgramStop s a → ProgramStop s b → a ≡ b

-- so is a text
abbrev pub OneFirstStop : Type 0
OneFirstStop = (deployed : List ContractEntry) (place : Option Address) (text : List ℕ) (a b : Rejected)
    → FirstStop deployed place text a → FirstStop deployed place text b → a ≡ b

-- a text that is accepted is refused nowhere
abbrev pub AcceptedTextsHaveNoStop : Type 0
AcceptedTextsHaveNoStop = (deployed : List ContractEntry) (place : Option Address) (text : List ℕ) (checked : CheckedProgram) (r : Rejected)
    → AcceptsText deployed place text checked → FirstStop deployed place text r → ⊥

-- a text is checked to one program
abbrev pub OneAcceptance : Type 0
OneAcceptance = (deployed : List ContractEntry) (place : Option Address) (text : List ℕ) (x y : CheckedProgram)
    → AcceptsText deployed place text x → AcceptsText deployed place text y → x ≡ y
