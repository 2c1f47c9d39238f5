use Rattle.std.proofs.Common.{IfOk, subst}
use Rattle.cad_declarations.specs.Views.{transaction_of}
use Rattle.cad_declarations.specs.declared.program.Checked.{Checked}
use Rattle.cad_rows.specs.Views.{pure_row}
use Rattle.cad_state.specs.Views.{program_of}
use Rattle.cad_replies.proofs.TransactionComing.{RunsTo}
use Rattle.cad_replies.proofs.transaction_running.outcome_of_row.Goals as goal

-- the copy of the Rc has the same program
pub returns-in-Ok : goal.returns-in-Ok
returns-in-Ok g c = λ w over sound.
    let front = g.E.FrontEnd.front c.args.end.now in
    let t = transaction_of c.args.transaction.now in
    subst (λ (x : Checked). IfOk c.run_over.result (RunsTo front w (program_of x) t (pure_row c.args.row.items) c.args.signers.now c.args.limit)) c.in-Ok.ensures
    (c.run_over.ensures w over sound)
