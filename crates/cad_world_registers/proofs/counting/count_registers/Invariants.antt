use Rattle.std.proofs.Common.{◌≡◌, ◌+◌, drop}
use Rattle.cad_world_registers.proofs.Listed.{counted_in}
use Rattle.cad_world_registers.proofs.counting.count_registers.Given as goal

abbrev pub invariant-loop-account : goal.invariant-loop-account
invariant-loop-account l = l.count + counted_in (drop l.account-index l.accounts) ≡ counted_in l.accounts
