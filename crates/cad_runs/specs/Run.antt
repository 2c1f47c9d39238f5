-- Runs: a transaction, the deployment of a contract, and a script.
use Rattle.std.specs.Prelude.{ℕ, suc, ◌+◌, ◌-◌, false, List, ◌∷◌, length, codes, Option, Some, None}
use Rattle.cad_syntax.specs.Types.{basic}
use Rattle.cad_syntax.specs.declared.address.Address.{Address}
use Rattle.cad_syntax.specs.declared.text.Name.{Name}
use Rattle.cad_syntax.specs.declared.types.Basic.TheVariants as b
use Rattle.cad_declarations.specs.Typed as e
use Rattle.cad_values.specs.Forms.{is_told}
use Rattle.cad_values.specs.Values.{PureValue}
use Rattle.cad_world.specs.Fronts.{Front}
use Rattle.cad_world.specs.Labels.{with_variables}
use Rattle.cad_world.specs.Rows.{Row, stop, Tree, first, join, empty_places}
use Rattle.cad_world.specs.State.{Contract, Frame, Action, ok, ◌>>=◌, ◌>>◌, give, done, require, tick}
use Rattle.cad_world.specs.Storable.{values_last}
use Rattle.cad_world.specs.Trees.{value_of}
use Rattle.cad_evaluation.specs.Accounts.{account_reference}
use Rattle.cad_evaluation.specs.Adding.{install}
use Rattle.cad_evaluation.specs.Bodies.{rest_of, all_tested, values_before, value_of_flow}
use Rattle.cad_evaluation.specs.Callees.{function, Calls}
use Rattle.cad_evaluation.specs.Ending.{ended, dropped}
use Rattle.cad_evaluation.specs.Statements.{exec_block}

-- Calls are nested less often, and turns of a loop fewer, before the units are spent: a turn and a call take a unit each, and in
-- a call stands at most one event that tells of an end, since there none is told of but by a call.
abbrev pub bound : ℕ → ℕ
bound limit = suc limit + suc limit

-- ---- transactions

-- `prepare` and `execute` count as calls
abbrev pub deeper : Action (Unit {0})
deeper = λ s. ok tt (record s { depth = suc s.depth })

abbrev pub shallower : Action (Unit {0})
shallower = λ s. ok tt (record s { depth = s.depth - 1 })

abbrev pub entry : Front → Calls → ℕ → Option e.BlockTree → Action (Unit {0})
entry front calls n None = done
entry front calls n (Some body) = tick >> deeper >> exec_block front calls n body >>= value_of_flow (basic b.Void) >>= dropped >> shallower

-- a reference to the account of each signer, with the rights of its parameter
abbrev pub signer_row : List e.VariableEntry → List Address → Row
signer_row (x ∷ xs) (a ∷ more) = first (account_reference x.type a) (signer_row xs more)
signer_row _ _ = stop

-- the fields, which aren't set, and the arguments
abbrev pub first_variables : e.TransactionBody → Row → Row
first_variables x arguments = join (empty_places (length x.fields)) arguments

abbrev pub transaction_frame : Row → Frame
transaction_frame r = record { within = None; self = None; initializes = false; variables = r; before = stop; result = stop }

abbrev pub begin_transaction : e.TransactionBody → Row → Action (Unit {0})
begin_transaction x arguments = λ s. ok tt (record s { frames = transaction_frame (first_variables x arguments) ∷ s.frames })

abbrev pub with_signers : Row → Action (Unit {0})
with_signers r = λ s. ok tt (with_variables (λ q. join q r) s)

-- `prepare`, over the signers, which end with it
abbrev pub prepared : Front → Calls → ℕ → e.TransactionBody → List Address → Action (Unit {0})
prepared front calls n x signers =
    with_signers (signer_row x.signers signers) >> entry front calls n x.prepare >> ended (length x.fields + length x.parameters)

-- the fields and parameters end
abbrev pub end_transaction : Action (Unit {0})
end_transaction = ended 0 >> (λ s. ok tt (record s { frames = rest_of s.frames }))

-- `prepare`, `pre`, the values of `before`, `execute` and `post`; then what stands in accounts is judged
abbrev pub run_transaction : Front → Calls → ℕ → e.TransactionBody → Row → List Address → Action (Unit {0})
run_transaction front calls n x arguments signers =
    begin_transaction x arguments
    >> prepared front calls n x signers
    >> all_tested front calls x.pre
    >> values_before front calls x.before
    >> entry front calls n x.execute
    >> all_tested front calls x.post
    >> end_transaction
    >> values_last

-- ---- deployments

-- the initializer is an entry, also where none is written
abbrev pub run_deploy : Calls → Contract → Row → Action (Unit {0})
run_deploy calls c arguments = tick >> install calls c arguments >>= dropped >> values_last

-- ---- scripts

abbrev pub main_name : Name
main_name = record { 0 = codes "main" }

-- 134 where a part of the result has no form in JSON-Cadence
abbrev pub told : Tree → Action PureValue
told t = require 134 (is_told (value_of t)) (give (value_of t))

-- a call of `main`
abbrev pub run_script : Calls → Row → Action PureValue
run_script calls arguments = tick >> calls (function main_name) arguments >>= told
