use Rattle.std.proofs.Common.{◌≡◌}
use Rattle.cad_rows.specs.Views.{pure_row}
use Rattle.cad_transaction_ends.proofs.Signing.{signers_from}
use Rattle.cad_world.specs.Rows.{join}
use Rattle.cad_transaction_ends.proofs.signers.add_signers.Given as goal

abbrev pub invariant-loop-i : goal.invariant-loop-i
invariant-loop-i l = join (pure_row l.row.items) (signers_from l.i l.parameters l.signers) ≡ join (pure_row l.fn.row.items) (signers_from 0 l.parameters l.signers)
