-- Labels in whole runs: what every form of evaluation keeps.
use Rattle.std.specs.Prelude.{◌≡◌, ℕ, suc, ◌≤◌, List, Option, Some, None}
use Rattle.cad_syntax.specs.Types.{PureType}
use Rattle.cad_syntax.specs.declared.address.Address.{Address}
use Rattle.cad_types.specs.declared.builtin.Builtin.{Builtin}
use Rattle.cad_declarations.specs.Typed as e
use Rattle.cad_world.specs.Fronts.{Front}
use Rattle.cad_world.specs.Labels.{at}
use Rattle.cad_world.specs.Marks.{AreGivenOnce}
use Rattle.cad_world.specs.Receivers.{Spot}
use Rattle.cad_world.specs.Rows.{Row, Tree, Found}
use Rattle.cad_world.specs.State.{Contract, State, ok}
use Rattle.cad_evaluation.specs.Builtins.{member}
use Rattle.cad_evaluation.specs.Callees.{Callee, Calls}
use Rattle.cad_evaluation.specs.Evaluation.{calls_to}
use Rattle.cad_evaluation.specs.Terms.{eval}
use Rattle.cad_labels.specs.Laws.{Follows, HasNone, HasNoneInRow, Gives, Keeps, AnyOne, CalleesKeep}
use Rattle.cad_runs.specs.Run.{run_transaction, run_deploy, run_script}

-- a receiver as it is now: the node with its label has these parts
abbrev pub StandsNow : Option ℕ → Row → State → Type 0
StandsNow None r s = Unit {0}
StandsNow (Some l) r s = (f : Found) × (at l s ≡ Some f) × (f.tree.parts ≡ r)

-- a built-in member, over arguments without labels
abbrev pub MembersKeepLabels : Type 0
MembersKeepLabels = (front : Front) (calls : Calls) (b : Builtin) (types : List PureType) (spot : Spot) (r : Row) (s : State) → CalleesKeep calls
    → HasNoneInRow r → StandsNow spot.label spot.tree.parts s → AreGivenOnce s → Gives HasNone s (member front calls b types spot r s)

-- an expression
abbrev pub TermsKeepLabels : Type 0
TermsKeepLabels = (front : Front) (calls : Calls) (a : e.TermTree) → CalleesKeep calls → Keeps HasNone (eval front calls a)

-- calls of functions and initializers, and events that tell of an end
abbrev pub CallsKeepLabels : Type 0
CallsKeepLabels = (front : Front) (n : ℕ) → CalleesKeep (calls_to front n)

-- the deployment of a contract
abbrev pub DeploymentsKeepLabels : Type 0
DeploymentsKeepLabels = (front : Front) (n : ℕ) (c : Contract) (r : Row) → HasNoneInRow r → Keeps AnyOne (run_deploy (calls_to front n) c r)

abbrev pub ScriptsKeepLabels : Type 0
ScriptsKeepLabels = (front : Front) (n : ℕ) (r : Row) → HasNoneInRow r → Keeps AnyOne (run_script (calls_to front n) r)

-- A transaction leaves a state that comes behind the one it began in, and so does a call: what was gone stays gone, so that a
-- reference to it leads nowhere however long the run goes on.
abbrev pub TransactionsFollow : Type 0
TransactionsFollow = (front : Front) (n : ℕ) (t : e.TransactionBody) (r : Row) (signers : List Address) (s s' : State)
    → HasNoneInRow r → run_transaction front (calls_to front n) n t r signers s ≡ ok tt s' → AreGivenOnce s → Follows s s'

abbrev pub CallsLeaveWhatIsGone : Type 0
CallsLeaveWhatIsGone = (front : Front) (n : ℕ) (callee : Callee) (r : Row) (s : State) (t : Tree) (s' : State) → HasNoneInRow r → AreGivenOnce s
    → calls_to front n callee r s ≡ ok t s' → (p : ℕ) → suc p ≤ s.next_label → at p s ≡ None → at p s' ≡ None
