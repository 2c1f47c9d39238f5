-- What a script answers to its arguments, under a front end that is asked of codes.
use Rattle.std.specs.Prelude.{◌≡◌, ◌≢◌, ℕ, List, length, Some, None}
use Rattle.serde_json.specs.Data.{Data}
use Rattle.cad_bounds.specs.Fronts.{Extends}
use Rattle.cad_contract_shapes.specs.Arguments.{argument_shapes, HasDistinctFields}
use Rattle.cad_declarations.specs.Typed.{FunctionBody}
use Rattle.cad_values.specs.Shapes.{declarations}
use Rattle.cad_values.specs.Values.{PureValue}
use Rattle.cad_world.specs.Begin.{begun}
use Rattle.cad_world.specs.Fronts.{Front}
use Rattle.cad_world.specs.Rows.{Row}
use Rattle.cad_world.specs.Shapes.{shapes}
use Rattle.cad_world.specs.State as run
use Rattle.cad_world.specs.State.{Outcome, Program, World}
use Rattle.cad_evaluation.specs.Evaluation.{calls_to}
use Rattle.cad_runs.specs.Commands.{Reply, failed, limit, bad, ill, main_of, types_of}
use Rattle.cad_runs.specs.Run.{bound, run_script}
use Rattle.cad_run_worlds.specs.Replies.{AreArguments, told_value}

-- ---- runs

-- a result by what the contracts of the state at the end declare
abbrev pub told_reply : Outcome PureValue → Reply Data
told_reply (run.ok v s) = told_value (declarations (shapes s.contracts)) v
told_reply (run.failed n) = failed n
told_reply run.limit = limit
told_reply run.ill = ill

-- `main` runs over a World on a row of arguments with so many units, and this is told of it
abbrev pub Ran : Front → World → Program → Row → ℕ → Reply Data → Type 0
Ran front w p r units reply = told_reply (run_script (calls_to front (bound units)) r (begun p units w)) ≡ reply

-- ---- replies

-- What a script answers over a World to JSON as its arguments, with so many units: 26 where it has no `main`, 25 where the arguments are more or
-- fewer than its parameters, 24 where they aren't of their types.
pub data Answers (front : Front) (w : World) (p : Program) (all : List Data) (units : ℕ) : Reply Data → Type 0 where
  no_main : main_of p ≡ None → Answers front w p all units (bad 26)
  miscounted : {main : FunctionBody} → main_of p ≡ Some main → length all ≢ length main.parameters → Answers front w p all units (bad 25)
  unfit : {main : FunctionBody} → main_of p ≡ Some main → length all ≡ length main.parameters
      → ((r : Row) → AreArguments (argument_shapes p.tables) (types_of main.parameters) all r → ⊥) → Answers front w p all units (bad 24)
  ran : {main : FunctionBody} {r : Row} {reply : Reply Data} → main_of p ≡ Some main → HasDistinctFields p.tables
      → AreArguments (argument_shapes p.tables) (types_of main.parameters) all r → Ran front w p r units reply → Answers front w p all units reply

-- a script has one answer at most over a World
abbrev pub OneAnswer : Type 0
OneAnswer = (front : Front) (w : World) (p : Program) (all : List Data) (units : ℕ) (x y : Reply Data) → Answers front w p all units x → Answers front w p all units y → x ≡ y

-- an answer under a front end is one under each that says what it says, where the run didn't ask it of a code of which it says nothing
abbrev pub AnswersExtend : Type 0
AnswersExtend = (f g : Front) (w : World) (p : Program) (all : List Data) (units : ℕ) (reply : Reply Data)
    → Extends f g → Answers f w p all units reply → reply ≢ failed 0 → Answers g w p all units reply
