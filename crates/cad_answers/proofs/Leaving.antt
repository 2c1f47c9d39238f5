-- What a command that isn't ok leaves, and a script.
use Rattle.std.proofs.Common.{◌≡◌, ℕ, true, false, List, refl, sym, ◌∙◌, subst}
use Rattle.serde_json.specs.Data.{Data}
use Rattle.cad_syntax.specs.declared.address.Address.{Address}
use Rattle.cad_syntax.specs.declared.type_id.TypeId.{TypeId}
use Rattle.cad_commands.specs.Commands.{command_of}
use Rattle.cad_replies.specs.Passed.{contract_named}
use Rattle.cad_replies.specs.Deployments as deployment
use Rattle.cad_runs.specs.Commands as command
use Rattle.cad_runs.specs.Commands.{Command, Reply, is_ok}
use Rattle.cad_replies.specs.Transactions as transaction
use Rattle.cad_run_outcomes.specs.Outcomes.{Outcome, stays, leads, settled}
use Rattle.cad_world.specs.Fronts.{Front}
use Rattle.cad_world.specs.State as run
use Rattle.cad_world.specs.State.{Program, World}
use Rattle.cad_answers.specs.Answer.{RunsTransaction, refused_transaction, comes, RunsDeploy, name_taken, refused_deploy, installs, Does, unread, spent, made, nowhere, deploys, transacts, runs, Commits, unchanged, fits, full, Answers, too_long, answered}

-- ---- what leads to another World is ok

abbrev IsOkIfLeads : Outcome → Type 0
IsOkIfLeads (stays a) = Unit {0}
IsOkIfLeads (leads a v) = is_ok a ≡ true

run_ok : (x : run.Outcome (Unit {0})) → IsOkIfLeads (settled x)
run_ok (run.ok u s) = refl
run_ok (run.failed n) = tt
run_ok run.limit = tt
run_ok run.ill = tt

settled_ok : (x : run.Outcome (Unit {0})) (o : Outcome) → settled x ≡ o → IsOkIfLeads o
settled_ok x o is = subst IsOkIfLeads is (run_ok x)

transaction_ok : (front : Front) (w : World) (p : Program) (all : List Data) (signers : List Address) (units : ℕ) (o : Outcome) → transaction.Comes front w p all signers units o → IsOkIfLeads o
transaction_ok front w p all signers units o (transaction.no_transaction h) = tt
transaction_ok front w p all signers units o (transaction.unsigned h k) = tt
transaction_ok front w p all signers units o (transaction.miscounted h k j) = tt
transaction_ok front w p all signers units o (transaction.unfit h k j i) = tt
transaction_ok front w p all signers units o (transaction.runs h k j i ran) = settled_ok _ o ran

deployment_ok : (front : Front) (w : World) (p : Program) (id : TypeId) (code : List ℕ) (all : List Data) (units : ℕ) (o : Outcome) → deployment.Comes front w p id code all units o → IsOkIfLeads o
deployment_ok front w p id code all units o (deployment.misnamed h) = tt
deployment_ok front w p id code all units o (deployment.unfit h k) = tt
deployment_ok front w p id code all units o (deployment.runs h k j ran) = settled_ok _ o ran

runs_transaction_ok : (w : World) (code : List ℕ) (all : List Data) (signers : List Address) (units : ℕ) (o : Outcome) → RunsTransaction w code all signers units o → IsOkIfLeads o
runs_transaction_ok w code all signers units o (refused_transaction h) = tt
runs_transaction_ok w code all signers units o (comes {front = f} {outcome = p} accepts right h told) = transaction_ok f w _ all signers units p h

runs_deploy_ok : (w : World) (id : TypeId) (code : List ℕ) (all : List Data) (units : ℕ) (o : Outcome) → RunsDeploy w id code all units o → IsOkIfLeads o
runs_deploy_ok w id code all units o (name_taken h) = tt
runs_deploy_ok w id code all units o (refused_deploy h k) = tt
runs_deploy_ok w id code all units o (installs {front = f} {outcome = p} free accepts right h told) = deployment_ok f w _ id code all units p h

does_ok : (w : World) (c : Command Data) (o : Outcome) → Does w c o → IsOkIfLeads o
does_ok w c o unread = tt
does_ok w c o (spent h) = tt
does_ok w c o (made h) = refl
does_ok w c o (nowhere h) = tt
does_ok w c o (deploys {place = place} {name = name} {code = code} {arguments = all} {units = n} {outcome = q} h t) = runs_deploy_ok w (contract_named place name) code all n q t
does_ok w c o (transacts {code = code} {arguments = all} {signers = ss} {units = n} {outcome = q} h) = runs_transaction_ok w code all ss n q h
does_ok w c o (runs h) = tt

commits_leave : (w : World) (o : Outcome) (a : Reply Data) (u : World) → IsOkIfLeads o → Commits w o a u → is_ok a ≡ false → u ≡ w
commits_leave w o a u ok unchanged not_ok = refl
commits_leave w o a u ok (fits h s) not_ok = let o : true ≡ false = sym ok ∙ not_ok in cc o
commits_leave w o a u ok (full h s) not_ok = refl

pub failures_leave : (w u : World) (line : List ℕ) (a : Reply Data) → Answers w line a u → is_ok a ≡ false → u ≡ w
failures_leave w u line a (too_long h) not_ok = refl
failures_leave w u line a (answered {outcome = o} h d c) not_ok = commits_leave w o a u (does_ok w (command_of line) o d) c not_ok

-- ---- scripts

abbrev StaysIfScript : Command Data → Outcome → Type 0
StaysIfScript (command.script code all units) (leads a v) = ⊥
StaysIfScript (command.script code all units) (stays a) = Unit {0}
StaysIfScript command.account o = Unit {0}
StaysIfScript (command.deploy place name code all units) o = Unit {0}
StaysIfScript (command.transaction code all signers units) o = Unit {0}
StaysIfScript (command.refused n) o = Unit {0}

does_stay : (w : World) (c : Command Data) (o : Outcome) → Does w c o → StaysIfScript c o
does_stay w c o unread = tt
does_stay w c o (spent h) = tt
does_stay w c o (made h) = tt
does_stay w c o (nowhere h) = tt
does_stay w c o (deploys h t) = tt
does_stay w c o (transacts h) = tt
does_stay w c o (runs h) = tt

script_commits : (w : World) (code : List ℕ) (all : List Data) (units : ℕ) (o : Outcome) (a : Reply Data) (u : World) → StaysIfScript (command.script code all units) o → Commits w o a u → u ≡ w
script_commits w code all units o a u stay unchanged = refl
script_commits w code all units o a u stay (fits h s) = absurd stay
script_commits w code all units o a u stay (full h s) = absurd stay

pub scripts_leave : (w u : World) (line code : List ℕ) (all : List Data) (units : ℕ) (a : Reply Data) → command_of line ≡ command.script code all units → Answers w line a u → u ≡ w
scripts_leave w u line code all units a is (too_long h) = refl
scripts_leave w u line code all units a is (answered {outcome = o} h d c) =
    script_commits w code all units o a u (subst (λ (x : Command Data). StaysIfScript x o) is (does_stay w (command_of line) o d)) c
