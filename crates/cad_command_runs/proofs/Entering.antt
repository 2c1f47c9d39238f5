-- `prepare` and `execute`, by their parts.
use Rattle.std.proofs.Common.{◌≡◌, sym, subst}
use Rattle.std.specs.Global.{Box}
use Rattle.std.specs.Prelude.{ℕ, Option, Some, Result, Ok}
use Rattle.cad_syntax.specs.Types.{basic}
use Rattle.cad_syntax.specs.declared.types.Basic.TheVariants as b
use Rattle.cad_declarations.specs.Typed as e
use Rattle.cad_calls.proofs.Steps.{Fails, FailsAnyhow, both, both_any, both_given, stops, any_then, any_stops}
use Rattle.cad_evaluation.specs.Bodies.{value_of_flow}
use Rattle.cad_evaluation.specs.Callees.{Calls, Front}
use Rattle.cad_evaluation.specs.Ending.{dropped}
use Rattle.cad_evaluation.specs.Statements.{exec_block}
use Rattle.cad_calls.specs.Passed.{flow_of, tree_in}
use Rattle.cad_calls.specs.Passed.{Flow}
use Rattle.cad_labels.specs.Laws.{AnyOne}
use Rattle.cad_outcomes.specs.Outcomes.{Gives, no_value}
use Rattle.cad_outcomes.specs.declared.stop.Stop.{Stop}
use Rattle.cad_rows.specs.declared.tree.Tree.{Tree}
use Rattle.cad_runs.specs.Run.{deeper, shallower, entry}
use Rattle.cad_state.specs.Views.{CarriesOut, FindsAndCarriesOut}
use Rattle.cad_state.specs.declared.state.RunState.{RunState}
use Rattle.cad_command_runs.proofs.Keeping.{entry_begun_keeps}
use Rattle.cad_command_runs.specs.Code.Transactions as parts
use Rattle.cad_world.specs.State.{tick}

pub begun_ok : (x y z : RunState) (r : Result (Unit {0}) Stop) → CarriesOut no_value tick x y (Ok tt) → CarriesOut no_value deeper y z r → CarriesOut no_value parts.entry_begun x z r
begun_ok x y z r first second = any_then tick (λ _. deeper) no_value no_value tt x y z r first second

pub begun_err : (x : RunState) (stop : Stop) → FailsAnyhow tick x stop → FailsAnyhow parts.entry_begun x stop
begun_err x stop h = any_stops tick (λ _. deeper) x stop h

pub flow_ok : (front : Front) (calls : Calls) (n : ℕ) (body : e.BlockTree) (x y z : RunState) (r : Result Flow Stop)
    → CarriesOut no_value parts.entry_begun x y (Ok tt) → FindsAndCarriesOut flow_of (exec_block front calls n body) y z r
    → FindsAndCarriesOut flow_of (parts.entry_flow front calls n body) x z r
flow_ok front calls n body x y z r first second =
    both AnyOne parts.entry_begun (λ _. exec_block front calls n body) no_value flow_of tt x y z r entry_begun_keeps (λ w ready. first w) second

pub flow_err : (front : Front) (calls : Calls) (n : ℕ) (body : e.BlockTree) (x : RunState) (stop : Stop)
    → FailsAnyhow parts.entry_begun x stop → Fails (parts.entry_flow front calls n body) x stop
flow_err front calls n body x stop h = stops parts.entry_begun (λ _. exec_block front calls n body) x stop (λ w ready. h w)

pub value_ok : (front : Front) (calls : Calls) (n : ℕ) (body : e.BlockTree) (f : Flow) (x y : RunState) (r : Result (Box Tree) Stop)
    → FindsAndCarriesOut flow_of (parts.entry_flow front calls n body) x y (Ok f) → Gives tree_in (value_of_flow (basic b.Void) (flow_of f)) r
    → FindsAndCarriesOut tree_in (parts.entry_value front calls n body) x y r
value_ok front calls n body f x y r first second = both_given (parts.entry_flow front calls n body) (value_of_flow (basic b.Void)) flow_of tree_in f x y r first second

pub value_err : (front : Front) (calls : Calls) (n : ℕ) (body : e.BlockTree) (x : RunState) (stop : Stop)
    → Fails (parts.entry_flow front calls n body) x stop → Fails (parts.entry_value front calls n body) x stop
value_err front calls n body x stop h = stops (parts.entry_flow front calls n body) (value_of_flow (basic b.Void)) x stop h

pub run_ok : (front : Front) (calls : Calls) (n : ℕ) (body : e.BlockTree) (t : Box Tree) (x y : RunState) (r : Result (Unit {0}) Stop)
    → FindsAndCarriesOut tree_in (parts.entry_value front calls n body) x y (Ok t) → Gives no_value (dropped (tree_in t)) r
    → FindsAndCarriesOut no_value (parts.entry_run front calls n body) x y r
run_ok front calls n body t x y r first second = both_given (parts.entry_value front calls n body) dropped tree_in no_value t x y r first second

pub run_err : (front : Front) (calls : Calls) (n : ℕ) (body : e.BlockTree) (x : RunState) (stop : Stop)
    → Fails (parts.entry_value front calls n body) x stop → Fails (parts.entry_run front calls n body) x stop
run_err front calls n body x stop h = stops (parts.entry_value front calls n body) dropped x stop h

pub written_ok : (front : Front) (calls : Calls) (n : ℕ) (body : e.BlockTree) (x y z : RunState)
    → FindsAndCarriesOut no_value (parts.entry_run front calls n body) x y (Ok tt) → CarriesOut no_value shallower y z (Ok tt)
    → FindsAndCarriesOut no_value (parts.entry_written front calls n body) x z (Ok tt)
written_ok front calls n body x y z first second = both_any (parts.entry_run front calls n body) (λ _. shallower) no_value no_value tt x y z (Ok tt) first second

pub written_err : (front : Front) (calls : Calls) (n : ℕ) (body : e.BlockTree) (x : RunState) (stop : Stop)
    → Fails (parts.entry_run front calls n body) x stop → Fails (parts.entry_written front calls n body) x stop
written_err front calls n body x stop h = stops (parts.entry_run front calls n body) (λ _. shallower) x stop h

-- what is written
pub entry_some : (front : Front) (calls : Calls) (n : ℕ) (o : Option e.BlockTree) (body : e.BlockTree) (x z : RunState) (r : Result (Unit {0}) Stop) → o ≡ Some body
    → FindsAndCarriesOut no_value (parts.entry_written front calls n body) x z r → FindsAndCarriesOut no_value (entry front calls n o) x z r
entry_some front calls n o body x z r is h = subst (λ (k : Option e.BlockTree). FindsAndCarriesOut no_value (entry front calls n k) x z r) (sym is) h
