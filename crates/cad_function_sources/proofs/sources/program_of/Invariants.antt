use Rattle.std.proofs.Common.{◌≡◌, drop}
use Rattle.cad_access.specs.RunContracts.{bodies_among, contracts_of}
use Rattle.cad_function_sources.proofs.sources.program_of.Given as goal

abbrev pub invariant-loop-contract : goal.invariant-loop-contract
invariant-loop-contract l = bodies_among (contracts_of (drop l.contract-index l.contracts)) l.id ≡ bodies_among (contracts_of l.contracts) l.id
