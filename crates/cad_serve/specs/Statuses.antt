-- The number with which the program ends, and the line that it prints then.
use Rattle.std.specs.Prelude.{ℕ, List, Option, Some, None, codes}
use Rattle.cad_serve.specs.declared.status.Status.{Status}
use Rattle.cad_serve.specs.declared.status.Status.TheVariants.{Done, Usage, ReadFault, WriteFault, DiskFault, Memory, BadStore, InputBound}

abbrev pub status_number : Status → ℕ
status_number Done = 0
status_number Usage = 2
status_number ReadFault = 3
status_number WriteFault = 4
status_number DiskFault = 5
status_number Memory = 6
status_number BadStore = 7
status_number InputBound = 8

abbrev pub status_line : Status → Option (List ℕ)
status_line Done = None
status_line Usage = Some (codes "cadence: usage")
status_line ReadFault = Some (codes "cadence: read fault")
status_line WriteFault = Some (codes "cadence: write fault")
status_line DiskFault = Some (codes "cadence: disk fault")
status_line Memory = Some (codes "cadence: memory")
status_line BadStore = Some (codes "cadence: bad store")
status_line InputBound = Some (codes "cadence: input bound")
