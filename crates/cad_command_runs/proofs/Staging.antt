-- A transaction, stage by stage.
use Rattle.std.specs.Prelude.{ℕ, ◌+◌, List, length, Result, Ok}
use Rattle.cad_syntax.specs.declared.address.Address.{Address}
use Rattle.cad_declarations.specs.Typed as e
use Rattle.cad_calls.proofs.Steps.{Fails, FailsAnyhow, both, both_any, stops}
use Rattle.cad_evaluation.specs.Bodies.{all_tested, values_before}
use Rattle.cad_evaluation.specs.Callees.{Calls, Front}
use Rattle.cad_evaluation.specs.Ending.{ended}
use Rattle.cad_label_runs.proofs.Run.{begin_transaction_keeps, with_signers_keeps}
use Rattle.cad_label_runs.proofs.Values.{signers_none}
use Rattle.cad_labels.specs.Laws.{HasNoneInRow, AnyOne, CalleesKeep}
use Rattle.cad_outcomes.proofs.Steps.{then}
use Rattle.cad_outcomes.specs.Outcomes.{Stops, no_value}
use Rattle.cad_outcomes.specs.declared.stop.Stop.{Stop}
use Rattle.cad_runs.specs.Run.{entry, signer_row, begin_transaction, with_signers, prepared, end_transaction, run_transaction}
use Rattle.cad_state.specs.Views.{state_over, IsReady, CarriesOut, FindsAndCarriesOut}
use Rattle.cad_state.specs.declared.state.RunState.{RunState}
use Rattle.cad_command_runs.proofs.Keeping as keeping
use Rattle.cad_command_runs.specs.Code.Transactions as parts
use Rattle.cad_transaction_ends.specs.OverStorable.{AreStorable, CarriesOutOverStorable, FindsAndCarriesOutOverStorable}
use Rattle.cad_world.specs.Rows.{Row}
use Rattle.cad_world.specs.State.{Account}
use Rattle.cad_world.specs.Storable.{values_last}

-- ---- `prepare`

pub signers_ok : (front : Front) (calls : Calls) (n : ℕ) (x : e.TransactionBody) (signers : List Address) (s t u : RunState) (o : Result (Unit {0}) Stop)
    → CarriesOut no_value (with_signers (signer_row x.signers signers)) s t (Ok tt) → FindsAndCarriesOut no_value (entry front calls n x.prepare) t u o
    → FindsAndCarriesOut no_value (parts.over_signers front calls n x signers) s u o
signers_ok front calls n x signers s t u o first second =
    both AnyOne (with_signers (signer_row x.signers signers)) (λ _. entry front calls n x.prepare) no_value no_value tt s t u o
    (with_signers_keeps (signer_row x.signers signers) (signers_none x.signers signers)) (λ w ready. first w) second

pub signers_err : (front : Front) (calls : Calls) (n : ℕ) (x : e.TransactionBody) (signers : List Address) (s : RunState) (stop : Stop)
    → FailsAnyhow (with_signers (signer_row x.signers signers)) s stop → Fails (parts.over_signers front calls n x signers) s stop
signers_err front calls n x signers s stop h = stops (with_signers (signer_row x.signers signers)) (λ _. entry front calls n x.prepare) s stop (λ w ready. h w)

pub prepared_ok : (front : Front) (calls : Calls) (n : ℕ) (x : e.TransactionBody) (signers : List Address) (s t u : RunState) (o : Result (Unit {0}) Stop)
    → FindsAndCarriesOut no_value (parts.over_signers front calls n x signers) s t (Ok tt) → CarriesOut no_value (ended (length x.fields + length x.parameters)) t u o
    → FindsAndCarriesOut no_value (prepared front calls n x signers) s u o
prepared_ok front calls n x signers s t u o first second =
    both_any (parts.over_signers front calls n x signers) (λ _. ended (length x.fields + length x.parameters)) no_value no_value tt s t u o first second

pub prepared_err : (front : Front) (calls : Calls) (n : ℕ) (x : e.TransactionBody) (signers : List Address) (s : RunState) (stop : Stop)
    → Fails (parts.over_signers front calls n x signers) s stop → Fails (prepared front calls n x signers) s stop
prepared_err front calls n x signers s stop h = stops (parts.over_signers front calls n x signers) (λ _. ended (length x.fields + length x.parameters)) s stop h

-- ---- from the beginning

pub to_prepare_ok : (front : Front) (calls : Calls) (n : ℕ) (x : e.TransactionBody) (r : Row) (signers : List Address) (s t u : RunState) (o : Result (Unit {0}) Stop)
    → CalleesKeep calls → HasNoneInRow r → CarriesOut no_value (begin_transaction x r) s t (Ok tt) → FindsAndCarriesOut no_value (prepared front calls n x signers) t u o
    → FindsAndCarriesOut no_value (parts.to_prepare front calls n x r signers) s u o
to_prepare_ok front calls n x r signers s t u o keep none first second =
    both AnyOne (begin_transaction x r) (λ _. prepared front calls n x signers) no_value no_value tt s t u o (begin_transaction_keeps x r none) (λ w ready. first w) second

pub to_prepare_err : (front : Front) (calls : Calls) (n : ℕ) (x : e.TransactionBody) (r : Row) (signers : List Address) (s : RunState) (stop : Stop)
    → FailsAnyhow (begin_transaction x r) s stop → Fails (parts.to_prepare front calls n x r signers) s stop
to_prepare_err front calls n x r signers s stop h = stops (begin_transaction x r) (λ _. prepared front calls n x signers) s stop (λ w ready. h w)

pub to_pre_ok : (front : Front) (calls : Calls) (n : ℕ) (x : e.TransactionBody) (r : Row) (signers : List Address) (s t u : RunState) (o : Result (Unit {0}) Stop)
    → CalleesKeep calls → HasNoneInRow r → FindsAndCarriesOut no_value (parts.to_prepare front calls n x r signers) s t (Ok tt) → FindsAndCarriesOut no_value (all_tested front calls x.pre) t u o
    → FindsAndCarriesOut no_value (parts.to_pre front calls n x r signers) s u o
to_pre_ok front calls n x r signers s t u o keep none first second =
    both AnyOne (parts.to_prepare front calls n x r signers) (λ _. all_tested front calls x.pre) no_value no_value tt s t u o (keeping.to_prepare_keeps front calls n x r signers keep none) first second

pub to_pre_err : (front : Front) (calls : Calls) (n : ℕ) (x : e.TransactionBody) (r : Row) (signers : List Address) (s : RunState) (stop : Stop)
    → Fails (parts.to_prepare front calls n x r signers) s stop → Fails (parts.to_pre front calls n x r signers) s stop
to_pre_err front calls n x r signers s stop h = stops (parts.to_prepare front calls n x r signers) (λ _. all_tested front calls x.pre) s stop h

pub to_before_ok : (front : Front) (calls : Calls) (n : ℕ) (x : e.TransactionBody) (r : Row) (signers : List Address) (s t u : RunState) (o : Result (Unit {0}) Stop)
    → CalleesKeep calls → HasNoneInRow r → FindsAndCarriesOut no_value (parts.to_pre front calls n x r signers) s t (Ok tt) → FindsAndCarriesOut no_value (values_before front calls x.before) t u o
    → FindsAndCarriesOut no_value (parts.to_before front calls n x r signers) s u o
to_before_ok front calls n x r signers s t u o keep none first second =
    both AnyOne (parts.to_pre front calls n x r signers) (λ _. values_before front calls x.before) no_value no_value tt s t u o (keeping.to_pre_keeps front calls n x r signers keep none) first second

pub to_before_err : (front : Front) (calls : Calls) (n : ℕ) (x : e.TransactionBody) (r : Row) (signers : List Address) (s : RunState) (stop : Stop)
    → Fails (parts.to_pre front calls n x r signers) s stop → Fails (parts.to_before front calls n x r signers) s stop
to_before_err front calls n x r signers s stop h = stops (parts.to_pre front calls n x r signers) (λ _. values_before front calls x.before) s stop h

pub to_execute_ok : (front : Front) (calls : Calls) (n : ℕ) (x : e.TransactionBody) (r : Row) (signers : List Address) (s t u : RunState) (o : Result (Unit {0}) Stop)
    → CalleesKeep calls → HasNoneInRow r → FindsAndCarriesOut no_value (parts.to_before front calls n x r signers) s t (Ok tt) → FindsAndCarriesOut no_value (entry front calls n x.execute) t u o
    → FindsAndCarriesOut no_value (parts.to_execute front calls n x r signers) s u o
to_execute_ok front calls n x r signers s t u o keep none first second =
    both AnyOne (parts.to_before front calls n x r signers) (λ _. entry front calls n x.execute) no_value no_value tt s t u o (keeping.to_before_keeps front calls n x r signers keep none) first second

pub to_execute_err : (front : Front) (calls : Calls) (n : ℕ) (x : e.TransactionBody) (r : Row) (signers : List Address) (s : RunState) (stop : Stop)
    → Fails (parts.to_before front calls n x r signers) s stop → Fails (parts.to_execute front calls n x r signers) s stop
to_execute_err front calls n x r signers s stop h = stops (parts.to_before front calls n x r signers) (λ _. entry front calls n x.execute) s stop h

pub to_post_ok : (front : Front) (calls : Calls) (n : ℕ) (x : e.TransactionBody) (r : Row) (signers : List Address) (s t u : RunState) (o : Result (Unit {0}) Stop)
    → CalleesKeep calls → HasNoneInRow r → FindsAndCarriesOut no_value (parts.to_execute front calls n x r signers) s t (Ok tt) → FindsAndCarriesOut no_value (all_tested front calls x.post) t u o
    → FindsAndCarriesOut no_value (parts.to_post front calls n x r signers) s u o
to_post_ok front calls n x r signers s t u o keep none first second =
    both AnyOne (parts.to_execute front calls n x r signers) (λ _. all_tested front calls x.post) no_value no_value tt s t u o (keeping.to_execute_keeps front calls n x r signers keep none) first second

pub to_post_err : (front : Front) (calls : Calls) (n : ℕ) (x : e.TransactionBody) (r : Row) (signers : List Address) (s : RunState) (stop : Stop)
    → Fails (parts.to_execute front calls n x r signers) s stop → Fails (parts.to_post front calls n x r signers) s stop
to_post_err front calls n x r signers s stop h = stops (parts.to_execute front calls n x r signers) (λ _. all_tested front calls x.post) s stop h

pub to_end_ok : (front : Front) (calls : Calls) (n : ℕ) (x : e.TransactionBody) (r : Row) (signers : List Address) (s t u : RunState) (o : Result (Unit {0}) Stop)
    → FindsAndCarriesOut no_value (parts.to_post front calls n x r signers) s t (Ok tt) → CarriesOut no_value end_transaction t u o
    → FindsAndCarriesOut no_value (parts.to_end front calls n x r signers) s u o
to_end_ok front calls n x r signers s t u o first second =
    both_any (parts.to_post front calls n x r signers) (λ _. end_transaction) no_value no_value tt s t u o first second

pub to_end_err : (front : Front) (calls : Calls) (n : ℕ) (x : e.TransactionBody) (r : Row) (signers : List Address) (s : RunState) (stop : Stop)
    → Fails (parts.to_post front calls n x r signers) s stop → Fails (parts.to_end front calls n x r signers) s stop
to_end_err front calls n x r signers s stop h = stops (parts.to_post front calls n x r signers) (λ _. end_transaction) s stop h

pub all_ok : (front : Front) (calls : Calls) (n : ℕ) (x : e.TransactionBody) (r : Row) (signers : List Address) (s t u : RunState) (o : Result (Unit {0}) Stop)
    → FindsAndCarriesOut no_value (parts.to_end front calls n x r signers) s t (Ok tt) → CarriesOutOverStorable no_value values_last t u o
    → FindsAndCarriesOutOverStorable no_value (run_transaction front calls n x r signers) s u o
all_ok front calls n x r signers s t u o first second w storable ready =
    then no_value (parts.to_end front calls n x r signers) (λ _. values_last) tt (state_over w s) (state_over w t) (state_over w u) o (first w ready) (second w storable)

pub all_err : (front : Front) (calls : Calls) (n : ℕ) (x : e.TransactionBody) (r : Row) (signers : List Address) (s : RunState) (stop : Stop)
    → Fails (parts.to_end front calls n x r signers) s stop → (w : List Account) → AreStorable w → IsReady w s → Stops (run_transaction front calls n x r signers (state_over w s)) stop
all_err front calls n x r signers s stop h w storable = stops (parts.to_end front calls n x r signers) (λ _. values_last) s stop h w
