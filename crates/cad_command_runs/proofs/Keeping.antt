-- Stages of a transaction keep labels apart.
use Rattle.std.specs.Prelude.{ℕ, List}
use Rattle.cad_syntax.specs.declared.address.Address.{Address}
use Rattle.cad_declarations.specs.Typed as e
use Rattle.cad_evaluation.specs.Callees.{Calls, Front}
use Rattle.cad_labels.specs.Laws.{HasNoneInRow, Keeps, AnyOne, CalleesKeep}
use Rattle.cad_labels.proofs.Forms.{keeps_spend}
use Rattle.cad_labels.proofs.Keeping.{keeps_bind}
use Rattle.cad_label_runs.proofs.Bodies.{all_tested_keeps, values_before_keeps}
use Rattle.cad_label_runs.proofs.Run.{deeper_keeps, entry_keeps, begin_transaction_keeps, prepared_keeps}
use Rattle.cad_runs.specs.Run.{begin_transaction}
use Rattle.cad_command_runs.specs.Code.Transactions as parts
use Rattle.cad_world.specs.Rows.{Row}

pub entry_begun_keeps : Keeps AnyOne parts.entry_begun
entry_begun_keeps = keeps_bind AnyOne AnyOne _ _ (keeps_spend 1) (λ u h. deeper_keeps)

pub to_prepare_keeps : (front : Front) (calls : Calls) (n : ℕ) (x : e.TransactionBody) (r : Row) (signers : List Address) → CalleesKeep calls → HasNoneInRow r
    → Keeps AnyOne (parts.to_prepare front calls n x r signers)
to_prepare_keeps front calls n x r signers keep none = keeps_bind AnyOne AnyOne (begin_transaction x r) _ (begin_transaction_keeps x r none) (λ u h. prepared_keeps front calls n x signers keep)

pub to_pre_keeps : (front : Front) (calls : Calls) (n : ℕ) (x : e.TransactionBody) (r : Row) (signers : List Address) → CalleesKeep calls → HasNoneInRow r
    → Keeps AnyOne (parts.to_pre front calls n x r signers)
to_pre_keeps front calls n x r signers keep none = keeps_bind AnyOne AnyOne _ _ (to_prepare_keeps front calls n x r signers keep none) (λ u h. all_tested_keeps front calls x.pre keep)

pub to_before_keeps : (front : Front) (calls : Calls) (n : ℕ) (x : e.TransactionBody) (r : Row) (signers : List Address) → CalleesKeep calls → HasNoneInRow r
    → Keeps AnyOne (parts.to_before front calls n x r signers)
to_before_keeps front calls n x r signers keep none = keeps_bind AnyOne AnyOne _ _ (to_pre_keeps front calls n x r signers keep none) (λ u h. values_before_keeps front calls x.before keep)

pub to_execute_keeps : (front : Front) (calls : Calls) (n : ℕ) (x : e.TransactionBody) (r : Row) (signers : List Address) → CalleesKeep calls → HasNoneInRow r
    → Keeps AnyOne (parts.to_execute front calls n x r signers)
to_execute_keeps front calls n x r signers keep none = keeps_bind AnyOne AnyOne _ _ (to_before_keeps front calls n x r signers keep none) (λ u h. entry_keeps front calls n x.execute keep)
