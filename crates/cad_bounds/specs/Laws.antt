-- The bound on calls that are nested and on turns of loops is never met before the units are spent; and a run is the same by each
-- front end that says as much as it asks for.
use Rattle.std.specs.Prelude.{◌≡◌, ◌≢◌, ℕ, ◌≤◌, List}
use Rattle.cad_syntax.specs.declared.address.Address.{Address}
use Rattle.cad_declarations.specs.Typed as e
use Rattle.cad_world.specs.Rows.{Row, Tree}
use Rattle.cad_world.specs.State.{Contract, State, ok, failed}
use Rattle.cad_evaluation.specs.Callees.{Callee, Front}
use Rattle.cad_evaluation.specs.Evaluation.{calls_to}
use Rattle.cad_runs.specs.Run.{bound, run_transaction, run_deploy, run_script}
use Rattle.cad_bounds.specs.Fronts.{Extends, Agree, join}

-- a call by a greater bound comes to the same
abbrev pub CallsAreBounded : Type 0
CallsAreBounded = (front : Front) (callee : Callee) (r : Row) (s : State) (n : ℕ) → bound s.units ≤ n
    → calls_to front n callee r s ≡ calls_to front (bound s.units) callee r s

-- and a transaction, a deployment and a script
abbrev pub TransactionsAreBounded : Type 0
TransactionsAreBounded = (front : Front) (t : e.TransactionBody) (r : Row) (signers : List Address) (s : State) (n : ℕ) → bound s.units ≤ n
    → run_transaction front (calls_to front n) n t r signers s ≡ run_transaction front (calls_to front (bound s.units)) (bound s.units) t r signers s

abbrev pub DeploymentsAreBounded : Type 0
DeploymentsAreBounded = (front : Front) (c : Contract) (r : Row) (s : State) (n : ℕ) → bound s.units ≤ n
    → run_deploy (calls_to front n) c r s ≡ run_deploy (calls_to front (bound s.units)) c r s

abbrev pub ScriptsAreBounded : Type 0
ScriptsAreBounded = (front : Front) (r : Row) (s : State) (n : ℕ) → bound s.units ≤ n
    → run_script (calls_to front n) r s ≡ run_script (calls_to front (bound s.units)) r s

-- a call leaves no more units than there were
abbrev pub UnitsNeverRise : Type 0
UnitsNeverRise = (front : Front) (callee : Callee) (r : Row) (s : State) (n : ℕ) (t : Tree) (s' : State) → bound s.units ≤ n
    → calls_to front n callee r s ≡ ok t s' → s'.units ≤ s.units

-- ---- front ends

-- where nothing was asked of which the first says nothing, the second gives the same outcome
abbrev pub TransactionsExtend : Type 0
TransactionsExtend = (f g : Front) (t : e.TransactionBody) (r : Row) (signers : List Address) (s : State) (n : ℕ) → Extends f g
    → run_transaction f (calls_to f n) n t r signers s ≢ failed 0
    → run_transaction g (calls_to g n) n t r signers s ≡ run_transaction f (calls_to f n) n t r signers s

abbrev pub DeploymentsExtend : Type 0
DeploymentsExtend = (f g : Front) (c : Contract) (r : Row) (s : State) (n : ℕ) → Extends f g
    → run_deploy (calls_to f n) c r s ≢ failed 0 → run_deploy (calls_to g n) c r s ≡ run_deploy (calls_to f n) c r s

abbrev pub ScriptsExtend : Type 0
ScriptsExtend = (f g : Front) (r : Row) (s : State) (n : ℕ) → Extends f g
    → run_script (calls_to f n) r s ≢ failed 0 → run_script (calls_to g n) r s ≡ run_script (calls_to f n) r s

-- two front ends that are joined say what the first says, and what the second says where they agree
abbrev pub JoinsExtendTheFirst : Type 0
JoinsExtendTheFirst = (f g : Front) → Extends f (join f g)

abbrev pub JoinsExtendTheSecond : Type 0
JoinsExtendTheSecond = (f g : Front) → Agree f g → Extends g (join f g)
