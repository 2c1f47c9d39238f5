use Rattle.std.proofs.Common.{◌+◌, ap, ◌∙◌, arith}
use Rattle.cad_rows.specs.Views.{pure_row}
use Rattle.cad_transaction_ends.proofs.Signing.{signers_from, turn}
use Rattle.cad_world.specs.Rows.{join}
use Rattle.cad_transaction_ends.proofs.signers.add_signers.Goals as goal

pub loop-i-preserved : goal.loop-i-preserved
loop-i-preserved c =
    ap (λ r. join r (signers_from (c.loop-i.i + 1) c.args.parameters.now c.args.signers.now)) c.in_ok-add_signer.ensures
    ∙ turn c.loop-i.i (c.loop-i.i + 1) c.index-parameters-i.result (record { 0 = 0 }) c.args.parameters.now c.args.signers.now (pure_row c.loop-i.row.items) (omega arith)
    (omega (arith, c.loop-i-test.true, c.min-i-end.ensures)) (omega (arith, c.loop-i-test.true, c.min-i-end.ensures))
    ∙ c.loop-i.invariant
