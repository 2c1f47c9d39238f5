-- Commands, one after another: each gives a reply and the World after it, by one order of refusals.
use Rattle.std.specs.Prelude.{ℕ, suc, ◌^◌, Bool, true, false, not, ◌&&◌, ◌==◌, nat_le, nat_lt, List, [], ◌∷◌, ◌++◌, length, map, Option, Some, None, Result, Ok, Err}
use Rattle.cad_syntax.specs.Types.{PureType}
use Rattle.cad_syntax.specs.declared.address.Address.{Address}
use Rattle.cad_syntax.specs.declared.type_id.TypeId.{TypeId}
use Rattle.cad_declarations.specs.Typed as e
use Rattle.cad_declarations.specs.declared.stop.Rejected.{Rejected}
use Rattle.cad_values.specs.Values.{PureValue}
use Rattle.cad_world.specs.Begin.{begun, left_world, new_account}
use Rattle.cad_world.specs.Registers.{size}
use Rattle.cad_world.specs.Rows.{Row}
use Rattle.cad_world.specs.Sound.{most_accounts}
use Rattle.cad_world.specs.State as run
use Rattle.cad_world.specs.State.{Program, World, State, Outcome}
use Rattle.cad_evaluation.specs.Adding.{contract_named, is_taken, is_contract_of, new_contract, initializer_types}
use Rattle.cad_evaluation.specs.Callees.{Calls}
use Rattle.cad_evaluation.specs.Evaluation.{calls_to}
use Rattle.cad_runs.specs.Commands.{Command, account, deploy, transaction, script, refused, Reply, account_made, result, ran, rejected, failed, limit, bad, ill, main_of, is_account, are_signers, types_of, argument_row}
use Rattle.cad_runs.specs.Run.{bound, run_transaction, run_deploy, run_script}
use Rattle.cad_runs.specs.Surroundings.{Surroundings, front_of}

-- the most bytes of a World
abbrev pub most_bytes : ℕ
most_bytes = 2 ^ 30

module _ {Json : Type 0} (x : Surroundings Json) where
  pub record Answer : Type 0 where
    pub reply : Reply Json
    pub world : World

  -- the World stays as it was
  abbrev pub leaves : World → Reply Json → Answer
  leaves w reply = record { reply = reply; world = w }

  -- the number of a bad request or of an error where the test doesn't hold
  abbrev pub bad_unless : ℕ → Bool → World → Answer → Answer
  bad_unless n true w answer = answer
  bad_unless n false w answer = leaves w (bad n)

  abbrev pub failed_unless : ℕ → Bool → World → Answer → Answer
  failed_unless n true w answer = answer
  failed_unless n false w answer = leaves w (failed n)

  -- 130 where the new World is too large
  abbrev pub becomes_if : Bool → World → World → Reply Json → Answer
  becomes_if true w new reply = record { reply = reply; world = new }
  becomes_if false w new reply = leaves w (failed 130)

  abbrev pub becomes : World → World → Reply Json → Answer
  becomes w new reply = becomes_if (nat_le (size x.coding new) most_bytes) w new reply

  -- ---- what a run comes to

  abbrev pub receipt : State → Reply Json
  receipt s = ran s.made s.destroyed (map (x.json_of_value s.contracts) s.events)

  -- the World that the state leaves, or the one before
  abbrev pub settled : World → Outcome (Unit {0}) → Answer
  settled w (run.ok u s) = becomes w (left_world s) (receipt s)
  settled w (run.failed n) = leaves w (failed n)
  settled w run.limit = leaves w limit
  settled w run.ill = leaves w ill

  -- the state of a script is given up
  abbrev pub told_result : World → Outcome PureValue → Answer
  told_result w (run.ok v s) = leaves w (result (x.json_of_value s.contracts v))
  told_result w (run.failed n) = leaves w (failed n)
  told_result w run.limit = leaves w limit
  told_result w run.ill = leaves w ill

  abbrev pub calls : ℕ → Calls
  calls units = calls_to (front_of x) (bound units)

  -- ---- an account

  abbrev pub one_more : World → World
  one_more w = record w { accounts = w.accounts ++ new_account ∷ [] }

  -- 127 where there are as many as may be
  abbrev pub make_account : World → Answer
  make_account w = failed_unless 127 (nat_lt (length w.accounts) most_accounts) w (becomes w (one_more w) (account_made (suc (length w.accounts))))

  -- ---- a contract is deployed

  abbrev pub deploy_row : World → ℕ → TypeId → List ℕ → Program → Option Row → Answer
  deploy_row w units id code p None = leaves w (failed 125)
  deploy_row w units id code p (Some r) = settled w (run_deploy (calls units) (new_contract id code p) r (begun p units w))

  -- 120 where it isn't one contract of that name, 125 where the arguments aren't those of its initializer
  abbrev pub deploy_program : World → ℕ → TypeId → List ℕ → List Json → Result Program Rejected → Answer
  deploy_program w units id code js (Err r) = leaves w (rejected r)
  deploy_program w units id code js (Ok p) = failed_unless 120 (is_contract_of id p) w
      (deploy_row w units id code p (argument_row x p.tables (initializer_types id p) js))

  -- bad 26 where there is no such account, 118 where the name is taken
  abbrev pub deploy_contract : World → ℕ → TypeId → List ℕ → List Json → Answer
  deploy_contract w units id code js = bad_unless 26 (is_account w id.address) w
      (failed_unless 118 (not (is_taken w.contracts id)) w
      (deploy_program w units id code js (x.load w.contracts (Some id.address) code)))

  -- ---- a transaction

  abbrev pub transaction_row : World → ℕ → Program → e.TransactionBody → List Address → Option Row → Answer
  transaction_row w units p t signers None = leaves w (bad 24)
  transaction_row w units p t signers (Some r) = settled w (run_transaction (front_of x) (calls units) (bound units) t r signers (begun p units w))

  -- bad 26 by what the program is and by the signers, 25 by the number of arguments, 24 by the arguments
  abbrev pub transaction_of : World → ℕ → Program → List Json → List Address → Option e.TransactionBody → Answer
  transaction_of w units p js signers None = leaves w (bad 26)
  transaction_of w units p js signers (Some t) = bad_unless 26 (are_signers w t signers) w
      (bad_unless 25 (length js == length t.parameters) w
      (transaction_row w units p t signers (argument_row x p.tables (types_of t.parameters) js)))

  abbrev pub transaction_program : World → ℕ → List Json → List Address → Result Program Rejected → Answer
  transaction_program w units js signers (Err r) = leaves w (rejected r)
  transaction_program w units js signers (Ok p) = transaction_of w units p js signers p.bodies.transaction

  -- ---- a script

  abbrev pub script_row : World → ℕ → Program → Option Row → Answer
  script_row w units p None = leaves w (bad 24)
  script_row w units p (Some r) = told_result w (run_script (calls units) r (begun p units w))

  abbrev pub script_of : World → ℕ → Program → List Json → Option e.FunctionBody → Answer
  script_of w units p js None = leaves w (bad 26)
  script_of w units p js (Some main) = bad_unless 25 (length js == length main.parameters) w
      (script_row w units p (argument_row x p.tables (types_of main.parameters) js))

  abbrev pub script_program : World → ℕ → List Json → Result Program Rejected → Answer
  script_program w units js (Err r) = leaves w (rejected r)
  script_program w units js (Ok p) = script_of w units p js (main_of p)

  -- ---- all commands

  abbrev pub step : World → Command Json → Answer
  step w account = make_account w
  step w (deploy a name code js units) = deploy_contract w units (contract_named a name) code js
  step w (transaction code js signers units) = transaction_program w units js signers (x.load w.contracts None code)
  step w (script code js units) = script_program w units js (x.load w.contracts None code)
  step w (refused n) = leaves w (bad n)

  -- the replies, each with the World after it
  abbrev pub batch : World → List (Command Json) → List Answer
  batch w [] = []
  batch w (c ∷ cs) = step w c ∷ batch (step w c).world cs

  abbrev pub last_world : World → List (Command Json) → World
  last_world w [] = w
  last_world w (c ∷ cs) = last_world (step w c).world cs
