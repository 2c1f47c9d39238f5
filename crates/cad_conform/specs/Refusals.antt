-- When a program's conformance is refused.
use Rattle.std.specs.Prelude.{◌≡◌}
use Rattle.cad_declarations.specs.Meets.{Unmet, stop_of}
use Rattle.cad_declarations.specs.Tables.{TypeEntry, ProgramTables}
use Rattle.cad_declarations.specs.declared.stop.Stop.{Stop}
use Rattle.cad_declarations.specs.declared.stop.Refused.{Refused}
use Rattle.cad_declarations.specs.declared.stop.Refused.TheVariants as refused

-- a stop is told of the first type that doesn't meet its interfaces; want of memory comes anywhere
abbrev pub Refuses : ProgramTables → Refused Stop → Type 0
Refuses tables (refused.Is stop) = Unmet tables stop
Refuses tables refused.Memory = Unit {0}

abbrev pub IsStop : TypeEntry → Refused Stop → Type 0
IsStop t (refused.Is stop) = stop ≡ stop_of t
IsStop t refused.Memory = Unit {0}
