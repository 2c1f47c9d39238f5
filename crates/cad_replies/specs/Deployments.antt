-- What the deployment of a contract comes to, under a front end that is asked of codes: the reply, and the World that it leaves.
use Rattle.std.specs.Prelude.{◌≡◌, ◌≢◌, ℕ, true, false, List}
use Rattle.serde_json.specs.Data.{Data}
use Rattle.cad_bounds.specs.Fronts.{Extends}
use Rattle.cad_contract_shapes.specs.Arguments.{argument_shapes, HasDistinctFields}
use Rattle.cad_command_runs.specs.Passed.{calls_to, initializer_types, is_contract_of, new_contract}
use Rattle.cad_syntax.specs.declared.type_id.TypeId.{TypeId}
use Rattle.cad_runs.specs.Commands.{failed}
use Rattle.cad_runs.specs.Run.{bound, run_deploy}
use Rattle.cad_run_worlds.specs.Replies.{AreArguments}
use Rattle.cad_run_outcomes.specs.Outcomes.{Outcome, stays, settled}
use Rattle.cad_world.specs.Begin.{begun}
use Rattle.cad_world.specs.Fronts.{Front}
use Rattle.cad_world.specs.Rows.{Row}
use Rattle.cad_world.specs.State.{Contract, Program, World}

-- ---- runs

-- the contract is installed over a World on a row of arguments with so many units, and comes to this
abbrev pub Ran : Front → World → Program → Contract → Row → ℕ → Outcome → Type 0
Ran front w p c r units outcome = settled (run_deploy (calls_to front (bound units)) c r (begun p units w)) ≡ outcome

-- ---- replies

-- What a program that a code is accepted as comes to as a contract of this address and name: 120 where it isn't one contract of that
-- name, 125 where the arguments aren't those of its initializer, in number or by their types; else what its run comes to.
pub data Comes (front : Front) (w : World) (p : Program) (id : TypeId) (code : List ℕ) (all : List Data) (units : ℕ) : Outcome → Type 0 where
  misnamed : is_contract_of id p ≡ false → Comes front w p id code all units (stays (failed 120))
  unfit : is_contract_of id p ≡ true → ((r : Row) → AreArguments (argument_shapes p.tables) (initializer_types id p) all r → ⊥)
      → Comes front w p id code all units (stays (failed 125))
  runs : {r : Row} {outcome : Outcome} → is_contract_of id p ≡ true → HasDistinctFields p.tables → AreArguments (argument_shapes p.tables) (initializer_types id p) all r
      → Ran front w p (new_contract id code p) r units outcome → Comes front w p id code all units outcome

-- a deployment comes to one outcome at most over a World
abbrev pub OneOutcome : Type 0
OneOutcome = (front : Front) (w : World) (p : Program) (id : TypeId) (code : List ℕ) (all : List Data) (units : ℕ) (x y : Outcome)
    → Comes front w p id code all units x → Comes front w p id code all units y → x ≡ y

-- an outcome under a front end is one under each that says what it says, where the run didn't ask it of a code of which it says nothing
abbrev pub OutcomesExtend : Type 0
OutcomesExtend = (f g : Front) (w : World) (p : Program) (id : TypeId) (code : List ℕ) (all : List Data) (units : ℕ) (outcome : Outcome)
    → Extends f g → Comes f w p id code all units outcome → outcome ≢ stays (failed 0) → Comes g w p id code all units outcome
