-- Which statuses tell that the accounts were opened.
use Rattle.cad_serve.specs.declared.status.Status.{Status}
use Rattle.cad_serve.specs.declared.status.Status.TheVariants.{Done, Usage, ReadFault, WriteFault, DiskFault, Memory, BadStore, InputBound}

-- the statuses of a run whose store was opened
abbrev pub HasRun : Status → Type 0
HasRun Done = Unit {0}
HasRun Usage = ⊥
HasRun ReadFault = Unit {0}
HasRun WriteFault = Unit {0}
HasRun DiskFault = ⊥
HasRun Memory = ⊥
HasRun BadStore = ⊥
HasRun InputBound = Unit {0}
