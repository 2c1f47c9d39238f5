-- Whole runs keep labels apart.
use Rattle.cad_labels.proofs.Gone.{gone_stays_gone}
use Rattle.std.proofs.Common.{◌≡◌, subst, ◌∙◌}
use Rattle.cad_world.specs.Marks.{marks}
use Rattle.cad_world.specs.Rows.{Row, bare}
use Rattle.cad_evaluation.specs.Evaluation.{calls_to}
use Rattle.cad_runs.specs.Laws.{LabelsAreGivenOnce}
use Rattle.cad_labels.specs.Laws.{HasNone, HasNoneInRow, Gives, AnyOne}
use Rattle.cad_labels.proofs.Marks.{marks_mark, mark_bare}
use Rattle.cad_label_runs.specs.Laws.{CallsKeepLabels, CallsLeaveWhatIsGone, TransactionsFollow, DeploymentsKeepLabels, ScriptsKeepLabels, TermsKeepLabels}
use Rattle.cad_label_runs.proofs.Evaluation.{calls_keep}
use Rattle.cad_label_runs.proofs.Run.{run_transaction_keeps, run_deploy_keeps, run_script_keeps}
use Rattle.cad_label_runs.proofs.Terms.{eval_keeps}

bare_none : (r : Row) → bare r ≡ r → HasNoneInRow r
bare_none r same p = subst (λ (q : Row). marks p q ≡ 0) same (marks_mark p (bare r) ∙ mark_bare p r)

pub transactions_follow : TransactionsFollow
transactions_follow front n t r signers s s' none ran once = (subst (Gives AnyOne s) ran (run_transaction_keeps front (calls_to front n) n t r signers (calls_keep front n) none s once)).1

pub labels_given : LabelsAreGivenOnce
labels_given front n t r signers s s' same ran once = (transactions_follow front n t r signers s s' (bare_none r same) ran once).0

pub all_calls_keep : CallsKeepLabels
all_calls_keep = calls_keep

pub deployments_keep : DeploymentsKeepLabels
deployments_keep front n c r none = run_deploy_keeps (calls_to front n) c r (calls_keep front n) none

pub scripts_keep : ScriptsKeepLabels
scripts_keep front n r none = run_script_keeps (calls_to front n) r (calls_keep front n) none

pub terms_keep : TermsKeepLabels
terms_keep front calls a keep = eval_keeps front calls a keep

pub calls_leave : CallsLeaveWhatIsGone
calls_leave front n callee r s t s' none once ran p low gone = gone_stays_gone s s' p (subst (Gives HasNone s) ran (calls_keep front n callee r none s once)).1 low gone
