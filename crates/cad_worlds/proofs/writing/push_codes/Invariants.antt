use Rattle.std.proofs.Common.{◌≡◌, ◌++◌, map, drop}
use Rattle.cad_worlds.specs.Sections.{code_of}
use Rattle.cad_worlds.specs.Standing.{register_of}
use Rattle.cad_worlds.proofs.writing.push_codes.Given as goal

abbrev pub invariant-loop-contract : goal.invariant-loop-contract
invariant-loop-contract l = map register_of l.rows.items ++ map code_of (drop l.contract-index l.contracts) ≡ map register_of l.fn.rows.items ++ map code_of l.contracts
