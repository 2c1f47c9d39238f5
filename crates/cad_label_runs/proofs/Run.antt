-- Run: labels are kept apart, and values in hand have none.
use Rattle.cad_labels.proofs.Keeping.{stays}
use Rattle.cad_values.specs.Values.{PureValue}
use Rattle.cad_label_runs.proofs.Changes.{frame_stands}
use Rattle.std.proofs.Common.{arith, refl, ◌∷◌}
use Rattle.cad_world.specs.Rows.{join, empty_places}
use Rattle.cad_labels.proofs.Marks.{mark_join, mark_empty}
use Rattle.cad_labels.proofs.Forms.{no_mark_in}
use Rattle.cad_labels.proofs.Keeping.{fewer_stand}
use Rattle.cad_labels.proofs.Frames.{rest_total}
use Rattle.cad_evaluation.specs.Bodies.{rest_of}
use Rattle.cad_runs.specs.Run.{first_variables, transaction_frame}
use Rattle.std.specs.Prelude.{ℕ, ◌+◌, List, length, Option, Some, None}
use Rattle.cad_syntax.specs.Types.{basic}
use Rattle.cad_syntax.specs.declared.address.Address.{Address}
use Rattle.cad_syntax.specs.declared.types.Basic.TheVariants as b
use Rattle.cad_declarations.specs.Typed as e
use Rattle.cad_values.specs.Forms.{is_told}
use Rattle.cad_world.specs.Fronts.{Front}
use Rattle.cad_world.specs.Rows.{Row, Tree}
use Rattle.cad_world.specs.State.{Contract}
use Rattle.cad_world.specs.Trees.{value_of}
use Rattle.cad_evaluation.specs.Callees.{function, Calls}
use Rattle.std.proofs.Common.{refl}
use Rattle.cad_runs.specs.Run.{deeper, shallower, entry, signer_row, begin_transaction, with_signers, prepared, end_transaction, run_transaction, run_deploy, main_name, told, run_script}
use Rattle.cad_labels.specs.Laws.{HasNone, HasNoneInRow, Keeps, AnyOne, CalleesKeep}
use Rattle.cad_label_runs.proofs.Values.{FlowHasNone}
use Rattle.cad_world.specs.State.{give}
use Rattle.cad_label_runs.proofs.Bodies.{all_tested_keeps, value_of_flow_keeps, values_before_keeps}
use Rattle.cad_label_runs.proofs.Statements.{exec_block_keeps}
use Rattle.cad_label_runs.proofs.Storable.{values_last_keeps}
use Rattle.cad_label_runs.proofs.Values.{signers_none}
use Rattle.cad_labels.proofs.Accounts.{installing_keeps}
use Rattle.cad_labels.proofs.Ends.{dropped_keeps}
use Rattle.cad_labels.proofs.Forms.{keeps_done, keeps_give, keeps_require, keeps_spend}
use Rattle.cad_labels.proofs.Keeping.{keeps_bind}
use Rattle.cad_labels.proofs.Places.{ending_keeps}

pub deeper_keeps : Keeps AnyOne deeper
deeper_keeps = λ s once. (tt, stays s once)

pub shallower_keeps : Keeps AnyOne shallower
shallower_keeps = λ s once. (tt, stays s once)

pub entry_keeps : (front : Front) (calls : Calls) (n : ℕ) (x4 : Option e.BlockTree) → CalleesKeep calls → Keeps AnyOne (entry front calls n x4)
entry_keeps front calls n None keep = keeps_done
entry_keeps front calls n (Some body) keep = keeps_bind AnyOne AnyOne _ _ (keeps_bind HasNone AnyOne _ _ (keeps_bind FlowHasNone HasNone _ _ (keeps_bind AnyOne FlowHasNone _ _ (keeps_bind AnyOne AnyOne _ _ (keeps_spend 1) (λ u1 h_u1. deeper_keeps)) (λ u2 h_u2. exec_block_keeps front calls n body keep)) (λ v3 h_v3. value_of_flow_keeps (basic b.Void) v3 h_v3)) (λ v4 h_v4. dropped_keeps v4)) (λ u5 h_u5. shallower_keeps)

pub begin_transaction_keeps : (x1 : e.TransactionBody) (x2 : Row) → HasNoneInRow x2 → Keeps AnyOne (begin_transaction x1 x2)
begin_transaction_keeps x arguments n1 = λ s once. (
  tt,
  fewer_stand s (record s { frames = transaction_frame (first_variables x arguments) ∷ s.frames }) refl
      (λ p. omega (arith, mark_join p (empty_places (length x.fields)) arguments, mark_empty p (length x.fields), no_mark_in arguments n1 p)) once,
)

pub with_signers_keeps : (x1 : Row) → HasNoneInRow x1 → Keeps AnyOne (with_signers x1)
with_signers_keeps r n0 = λ s once. (tt, frame_stands (λ f. record f { variables = join f.variables r }) s (λ p f. omega (arith, mark_join p f.variables r, no_mark_in r n0 p)) once)

pub prepared_keeps : (front : Front) (calls : Calls) (n : ℕ) (x4 : e.TransactionBody) (x5 : List Address) → CalleesKeep calls → Keeps AnyOne (prepared front calls n x4 x5)
prepared_keeps front calls n x signers keep = keeps_bind AnyOne AnyOne _ _ (keeps_bind AnyOne AnyOne (with_signers (signer_row x.signers signers)) _ (with_signers_keeps (signer_row x.signers signers) (signers_none x.signers signers)) (λ u1 h_u1. entry_keeps front calls n x.prepare keep)) (λ u2 h_u2. ending_keeps (length x.fields + length x.parameters))

pub end_transaction_keeps : Keeps AnyOne end_transaction
end_transaction_keeps = keeps_bind AnyOne AnyOne _ _ (ending_keeps 0) (λ u1 h_u1. λ s once. (tt, fewer_stand s (record s { frames = rest_of s.frames }) refl (λ p. omega (arith, rest_total p s.frames)) once))

pub run_transaction_keeps : (front : Front) (calls : Calls) (n : ℕ) (x4 : e.TransactionBody) (x5 : Row) (x6 : List Address) → CalleesKeep calls → HasNoneInRow x5 → Keeps AnyOne (run_transaction front calls n x4 x5 x6)
run_transaction_keeps front calls n x arguments signers keep n4 = keeps_bind AnyOne AnyOne _ _ (keeps_bind AnyOne AnyOne _ _ (keeps_bind AnyOne AnyOne _ _ (keeps_bind AnyOne AnyOne _ _ (keeps_bind AnyOne AnyOne _ _ (keeps_bind AnyOne AnyOne _ _ (keeps_bind AnyOne AnyOne (begin_transaction x arguments) _ (begin_transaction_keeps x arguments n4) (λ u1 h_u1. prepared_keeps front calls n x signers keep)) (λ u2 h_u2. all_tested_keeps front calls x.pre keep)) (λ u3 h_u3. values_before_keeps front calls x.before keep)) (λ u4 h_u4. entry_keeps front calls n x.execute keep)) (λ u5 h_u5. all_tested_keeps front calls x.post keep)) (λ u6 h_u6. end_transaction_keeps)) (λ u7 h_u7. values_last_keeps)

pub run_deploy_keeps : (calls : Calls) (x2 : Contract) (x3 : Row) → CalleesKeep calls → HasNoneInRow x3 → Keeps AnyOne (run_deploy calls x2 x3)
run_deploy_keeps calls c arguments keep n2 = keeps_bind AnyOne AnyOne _ _ (keeps_bind HasNone AnyOne _ _ (keeps_bind AnyOne HasNone _ _ (keeps_spend 1) (λ u1 h_u1. installing_keeps calls c arguments keep n2)) (λ v2 h_v2. dropped_keeps v2)) (λ u3 h_u3. values_last_keeps)

pub told_keeps : (x1 : Tree) → Keeps AnyOne (told x1)
told_keeps t = keeps_require AnyOne 134 (is_told (value_of t)) (give (value_of t)) (keeps_give {A = PureValue} AnyOne (value_of t) tt)

pub run_script_keeps : (calls : Calls) (x2 : Row) → CalleesKeep calls → HasNoneInRow x2 → Keeps AnyOne (run_script calls x2)
run_script_keeps calls arguments keep n1 = keeps_bind HasNone AnyOne _ _ (keeps_bind AnyOne HasNone _ _ (keeps_spend 1) (λ u1 h_u1. keep (function main_name) arguments n1)) (λ v2 h_v2. told_keeps v2)
