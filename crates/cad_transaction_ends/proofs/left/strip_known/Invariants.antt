use Rattle.cad_transaction_ends.proofs.Kept.{KeptSo}
use Rattle.cad_transaction_ends.proofs.KnownAccounts.{placed, kept_placed}
use Rattle.cad_transaction_ends.proofs.left.strip_known.Given as goal

abbrev pub invariant-loop-i : goal.invariant-loop-i
invariant-loop-i l = KeptSo placed kept_placed l.i l.known.items l.fn.known.items
