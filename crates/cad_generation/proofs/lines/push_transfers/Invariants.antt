use Rattle.std.proofs.Common.{◌≡◌, ◌++◌, drop, map}
use Rattle.cad_generation.specs.Lines as spec
use Rattle.cad_generation.proofs.lines.push_transfers.Given as goal

abbrev pub invariant-loop-receiver : goal.invariant-loop-receiver
invariant-loop-receiver l = l.lines ++ map (λ to. spec.transfer_line 1 to 100) (drop l.receiver-index l.receivers) ≡ l.fn.lines ++ map (λ to. spec.transfer_line 1 to 100) l.fn.receivers
