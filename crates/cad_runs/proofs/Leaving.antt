-- What is refused or fails, and a script, leaves the World.
use Rattle.std.proofs.Common.{◌≡◌, ℕ, suc, Bool, true, false, List, Option, Some, None, Result, Ok, Err, refl, sym, ◌∙◌, length, nat_le, nat_lt, not, ◌==◌, true≢false}
use Rattle.cad_syntax.specs.declared.address.Address.{Address}
use Rattle.cad_syntax.specs.declared.type_id.TypeId.{TypeId}
use Rattle.cad_declarations.specs.Typed as e
use Rattle.cad_declarations.specs.declared.stop.Rejected.{Rejected}
use Rattle.cad_values.specs.Values.{PureValue}
use Rattle.cad_world.specs.Begin.{begun, left_world}
use Rattle.cad_world.specs.Registers.{size}
use Rattle.cad_world.specs.Rows.{Row}
use Rattle.cad_world.specs.Sound.{most_accounts}
use Rattle.cad_world.specs.State as run
use Rattle.cad_world.specs.State.{Program, World, Outcome}
use Rattle.cad_evaluation.specs.Adding.{is_taken, is_contract_of, initializer_types, new_contract, contract_named}
use Rattle.cad_runs.specs.Batch.{Answer, most_bytes, leaves, bad_unless, failed_unless, becomes_if, becomes, receipt, settled, told_result, calls, one_more, make_account, deploy_row, deploy_program, deploy_contract, transaction_row, transaction_of, transaction_program, script_row, script_of, script_program, step}
use Rattle.cad_runs.specs.Commands.{Command, account, deploy, transaction, script, refused, Reply, account_made, is_ok, main_of, is_account, are_signers, types_of, argument_row}
use Rattle.cad_runs.specs.Laws.{FailuresLeave, ScriptsLeave}
use Rattle.cad_runs.specs.Run.{bound, run_transaction, run_deploy, run_script}
use Rattle.cad_runs.specs.Surroundings.{Surroundings, front_of}

module _ {Json : Type 0} (x : Surroundings Json) (w : World) where
  -- unless it is ok, the World stays
  abbrev pub Leaves : Answer x → Type 0
  Leaves a = is_ok a.reply ≡ false → a.world ≡ w

  bad_leaves : (n : ℕ) (t : Bool) (a : Answer x) → Leaves a → Leaves (bad_unless x n t w a)
  bad_leaves n true a h = h
  bad_leaves n false a h = λ e. refl

  failed_leaves : (n : ℕ) (t : Bool) (a : Answer x) → Leaves a → Leaves (failed_unless x n t w a)
  failed_leaves n true a h = h
  failed_leaves n false a h = λ e. refl

  becomes_leaves : (t : Bool) (new : World) (r : Reply Json) → is_ok r ≡ true → Leaves (becomes_if x t w new r)
  becomes_leaves true new r ok e = absurd (true≢false (sym ok ∙ e))
  becomes_leaves false new r ok e = refl

  settled_leaves : (o : Outcome (Unit {0})) → Leaves (settled x w o)
  settled_leaves (run.ok u s) = becomes_leaves (nat_le (size x.coding (left_world s)) most_bytes) (left_world s) (receipt x s) refl
  settled_leaves (run.failed n) = λ e. refl
  settled_leaves run.limit = λ e. refl
  settled_leaves run.ill = λ e. refl

  account_leaves : Leaves (make_account x w)
  account_leaves = failed_leaves 127 (nat_lt (length w.accounts) most_accounts) (becomes x w (one_more x w) (account_made (suc (length w.accounts))))
      (becomes_leaves (nat_le (size x.coding (one_more x w)) most_bytes) (one_more x w) (account_made (suc (length w.accounts))) refl)

  deploy_row_leaves : (n : ℕ) (id : TypeId) (code : List ℕ) (p : Program) (o : Option Row) → Leaves (deploy_row x w n id code p o)
  deploy_row_leaves n id code p None = λ e. refl
  deploy_row_leaves n id code p (Some r) = settled_leaves (run_deploy (calls x n) (new_contract id code p) r (begun p n w))

  deploy_program_leaves : (n : ℕ) (id : TypeId) (code : List ℕ) (js : List Json) (o : Result Program Rejected) → Leaves (deploy_program x w n id code js o)
  deploy_program_leaves n id code js (Err r) = λ e. refl
  deploy_program_leaves n id code js (Ok p) =
      failed_leaves 120 (is_contract_of id p) _ (deploy_row_leaves n id code p (argument_row x p.tables (initializer_types id p) js))

  deploy_leaves : (n : ℕ) (id : TypeId) (code : List ℕ) (js : List Json) → Leaves (deploy_contract x w n id code js)
  deploy_leaves n id code js =
      bad_leaves 26 (is_account w id.address) _ (failed_leaves 118 (not (is_taken w.contracts id)) _ (deploy_program_leaves n id code js (x.load w.contracts (Some id.address) code)))

  transaction_row_leaves : (n : ℕ) (p : Program) (t : e.TransactionBody) (signers : List Address) (o : Option Row) → Leaves (transaction_row x w n p t signers o)
  transaction_row_leaves n p t signers None = λ e. refl
  transaction_row_leaves n p t signers (Some r) = settled_leaves (run_transaction (front_of x) (calls x n) (bound n) t r signers (begun p n w))

  transaction_of_leaves : (n : ℕ) (p : Program) (js : List Json) (signers : List Address) (o : Option e.TransactionBody) → Leaves (transaction_of x w n p js signers o)
  transaction_of_leaves n p js signers None = λ e. refl
  transaction_of_leaves n p js signers (Some t) =
      bad_leaves 26 (are_signers w t signers) _ (bad_leaves 25 (length js == length t.parameters) _ (transaction_row_leaves n p t signers (argument_row x p.tables (types_of t.parameters) js)))

  transaction_leaves : (n : ℕ) (js : List Json) (signers : List Address) (o : Result Program Rejected) → Leaves (transaction_program x w n js signers o)
  transaction_leaves n js signers (Err r) = λ e. refl
  transaction_leaves n js signers (Ok p) = transaction_of_leaves n p js signers p.bodies.transaction

  -- ---- scripts

  told_stays : (o : Outcome PureValue) → (told_result x w o).world ≡ w
  told_stays (run.ok v s) = refl
  told_stays (run.failed n) = refl
  told_stays run.limit = refl
  told_stays run.ill = refl

  row_stays : (n : ℕ) (p : Program) (o : Option Row) → (script_row x w n p o).world ≡ w
  row_stays n p None = refl
  row_stays n p (Some r) = told_stays (run_script (calls x n) r (begun p n w))

  bad_stays : (n : ℕ) (t : Bool) (a : Answer x) → a.world ≡ w → (bad_unless x n t w a).world ≡ w
  bad_stays n true a h = h
  bad_stays n false a h = refl

  script_of_stays : (n : ℕ) (p : Program) (js : List Json) (o : Option e.FunctionBody) → (script_of x w n p js o).world ≡ w
  script_of_stays n p js None = refl
  script_of_stays n p js (Some main) =
      bad_stays 25 (length js == length main.parameters) _ (row_stays n p (argument_row x p.tables (types_of main.parameters) js))

  script_stays : (n : ℕ) (js : List Json) (o : Result Program Rejected) → (script_program x w n js o).world ≡ w
  script_stays n js (Err r) = refl
  script_stays n js (Ok p) = script_of_stays n p js (main_of p)

  step_leaves : (c : Command Json) → Leaves (step x w c)
  step_leaves account = account_leaves
  step_leaves (deploy a name code js n) = deploy_leaves n (contract_named a name) code js
  step_leaves (transaction code js signers n) = transaction_leaves n js signers (x.load w.contracts None code)
  step_leaves (script code js n) = λ e. script_stays n js (x.load w.contracts None code)
  step_leaves (refused n) = λ e. refl

pub failures_leave : (Json : Type 0) → FailuresLeave Json
failures_leave Json x w c = step_leaves x w c

pub scripts_leave : (Json : Type 0) → ScriptsLeave Json
scripts_leave Json x w code js n = script_stays x w n js (x.load w.contracts None code)
