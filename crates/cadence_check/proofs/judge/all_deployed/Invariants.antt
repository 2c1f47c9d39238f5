use Rattle.std.proofs.Common.{drop, map}
use Rattle.cad_tables.specs.Views.{contracts_of}
use Rattle.cadence_check.specs.Views.{contract_of}
use Rattle.cadence_check.proofs.Judged.{Onward}
use Rattle.cadence_check.proofs.judge.all_deployed.Given as goal

abbrev pub invariant-loop-number : goal.invariant-loop-number
invariant-loop-number l = Onward (contracts_of l.deployed) l.number (map contract_of (drop l.number l.contracts)) (map contract_of l.contracts)
