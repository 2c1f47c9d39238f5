-- What is told of a script, case by case.
use Rattle.std.proofs.Common.{◌≡◌, ◌≢◌, ℕ, Bool, true, false, List, Some, arith, sym, ap, ◌∙◌, subst}
use Rattle.std.specs.Prelude.{Result, Ok, Err, IfOk}
use Rattle.serde_json.specs.Data.{Data}
use Rattle.cad_contract_shapes.specs.Arguments.{argument_shapes, HasDistinctFields}
use Rattle.cad_declarations.specs.Typed.{FunctionBody}
use Rattle.cad_outcomes.specs.declared.stop.Stop.{Stop}
use Rattle.cad_json.specs.Forms.{has_form}
use Rattle.cad_runs.specs.Commands.{Reply, failed, main_of, types_of}
use Rattle.cad_types.specs.Declarations.{Declaration}
use Rattle.cad_values.specs.declared.value.Value.{Value}
use Rattle.cad_world.specs.Fronts.{Front}
use Rattle.cad_world.specs.Rows.{Row}
use Rattle.cad_world.specs.Shapes.{shapes}
use Rattle.cad_world.specs.State.{Contract, Program, State, World}
use Rattle.cad_evaluation.specs.Evaluation.{calls_to}
use Rattle.cad_outcomes.specs.Outcomes.{Does}
use Rattle.cad_runs.specs.Run.{bound, run_script}
use Rattle.cad_values.specs.Shapes.{declarations}
use Rattle.cad_values.specs.Values.{PureValue, pure_value}
use Rattle.cad_world.specs.Begin.{begun}
use Rattle.cad_run_worlds.proofs.Stops.{failed_is, stop_known}
use Rattle.cad_replies.proofs.ScriptRuns.{some_is, tells}
use Rattle.cad_run_worlds.specs.Code.{told_stop}
use Rattle.cad_replies.specs.Code.{told_of}
use Rattle.cad_run_worlds.specs.Replies.{told_if, told_value, AreArguments}
use Rattle.cad_replies.specs.Scripts.{Ran, Answers, ran}
use Rattle.cad_run_worlds.specs.Views.{Tells}
use Rattle.cad_run_worlds.specs.declared.reply.ScriptReply.{ScriptReply}

if_known : (declared : List Declaration) (b : Bool) (v : PureValue) → told_if declared b v ≢ failed 0
if_known declared true v = λ h. cc h
if_known declared false v = λ h. let n : 134 ≡ 0 = failed_is 134 0 h in omega (arith, n)

-- what is told of a run isn't an error without a number
pub told_known : (declared : List Declaration) (outcome : Result Value Stop) (reply : Reply Data) → told_of declared outcome ≡ Some reply → reply ≢ failed 0
told_known declared (Ok v) reply told = λ h. if_known declared (has_form declared (pure_value v)) (pure_value v) (some_is (told_value declared (pure_value v)) reply told ∙ h)
told_known declared (Err stop) reply told = stop_known stop reply told

-- ---- runs

pub valued_so : {E : Type 0} (declared : List Declaration) (outcome : Result Value Stop) (v : Value) (given : Result ScriptReply E) → outcome ≡ Ok v
    → IfOk given (λ it. Tells it (told_value declared (pure_value v))) → IfOk given (λ it. (reply : Reply Data) × (told_of declared outcome ≡ Some reply) × Tells it reply)
valued_so declared outcome v (Ok it) is told = (told_value declared (pure_value v), ap (told_of declared) is, told)
valued_so declared outcome v (Err e) is told = tt

pub stopped_so : {E : Type 0} (declared : List Declaration) (outcome : Result Value Stop) (why : Stop) (given : Result ScriptReply E) → outcome ≡ Err why
    → IfOk given (λ it. (reply : Reply Data) × (told_stop why ≡ Some reply) × Tells it reply) → IfOk given (λ it. (reply : Reply Data) × (told_of declared outcome ≡ Some reply) × Tells it reply)
stopped_so declared outcome why (Ok it) is told = (told.0, ap (told_of declared) is ∙ told.1, told.2)
stopped_so declared outcome why (Err e) is told = tt

-- ---- answers

-- a reply without a run
pub refused_with : {E : Type 0} (P : ScriptReply → Type 0) (r : Result ScriptReply E) (it : ScriptReply) → r ≡ Ok it → P it → IfOk r P
refused_with P r it is h = subst (λ (x : Result ScriptReply _). IfOk x P) (sym is) h

pub ran_answers : {E : Type 0} (front : Front) (w : World) (p : Program) (all : List Data) (units : ℕ) (main : FunctionBody) (r : Row) (given : Result ScriptReply E) → main_of p ≡ Some main
    → HasDistinctFields p.tables → AreArguments (argument_shapes p.tables) (types_of main.parameters) all r → IfOk given (λ it. (reply : Reply Data) × Ran front w p r units reply × (reply ≢ failed 0) × Tells it reply)
    → IfOk given (λ it. (reply : Reply Data) × Answers front w p all units reply × (reply ≢ failed 0) × Tells it reply)
ran_answers front w p all units main r (Ok it) is distinct them told = (told.0, ran is distinct them told.1, told.2, told.3)
ran_answers front w p all units main r (Err e) is distinct them told = tt

abbrev IsToldOf : List Declaration → Result Value Stop → ScriptReply → Type 0
IsToldOf declared outcome it = (reply : Reply Data) × (told_of declared outcome ≡ Some reply) × Tells it reply

run_told : (front : Front) (w : World) (p : Program) (r : Row) (units : ℕ) (after : State) (contracts : List Contract) (outcome : Result Value Stop) (it : ScriptReply)
    → contracts ≡ after.contracts → Does pure_value (run_script (calls_to front (bound units)) r) (begun p units w) after outcome → IsToldOf (declarations (shapes contracts)) outcome it
    → (reply : Reply Data) × Ran front w p r units reply × (reply ≢ failed 0) × Tells it reply
run_told front w p r units after contracts outcome it same does told = (
  told.0,
  tells (run_script (calls_to front (bound units)) r) (begun p units w) after outcome told.0 does
      (subst (λ (cs : List Contract). told_of (declarations (shapes cs)) outcome ≡ Some told.0) same told.1),
  told_known (declarations (shapes contracts)) outcome told.0 told.1,
  told.2,
)

-- what is told of a run is what is answered to its row
pub ran_told : {D E : Type 0} (front : Front) (w : World) (p : Program) (r : Row) (units : ℕ) (after : State) (contracts : List Contract) (outcome : Result Value Stop) (given : Result ScriptReply D) (result : Result ScriptReply E)
    → IfOk result (λ it. given ≡ Ok it) → contracts ≡ after.contracts → Does pure_value (run_script (calls_to front (bound units)) r) (begun p units w) after outcome
    → IfOk given (IsToldOf (declarations (shapes contracts)) outcome) → IfOk result (λ it. (reply : Reply Data) × Ran front w p r units reply × (reply ≢ failed 0) × Tells it reply)
ran_told front w p r units after contracts outcome given (Ok it) is same does told =
    run_told front w p r units after contracts outcome it same does (subst (λ (x : Result ScriptReply _). IfOk x (IsToldOf (declarations (shapes contracts)) outcome)) is told)
ran_told front w p r units after contracts outcome given (Err e) is same does told = tt
