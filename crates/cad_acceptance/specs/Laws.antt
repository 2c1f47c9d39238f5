-- What acceptance and first stops have to do with each other.
use Rattle.cad_declarations.specs.declared.stop.Rejected.{Rejected}
use Rattle.cad_acceptance.specs.Acceptance.{CheckedProgram, Accepts}
use Rattle.cad_acceptance.specs.Stops.{Subject, ProgramStop}

-- a program that is accepted has no stop
abbrev pub AcceptedHaveNoStop : Type 0
AcceptedHaveNoStop = (s : Subject) (checked : CheckedProgram) (r : Rejected) → Accepts s checked → ProgramStop s r → ⊥
