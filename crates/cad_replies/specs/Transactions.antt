-- What a transaction comes to, under a front end that is asked of codes: the reply, and the World that it leaves.
use Rattle.std.specs.Prelude.{◌≡◌, ◌≢◌, ℕ, true, false, List, length, Some, None}
use Rattle.serde_json.specs.Data.{Data}
use Rattle.cad_bounds.specs.Fronts.{Extends}
use Rattle.cad_contract_shapes.specs.Arguments.{argument_shapes, HasDistinctFields}
use Rattle.cad_syntax.specs.declared.address.Address.{Address}
use Rattle.cad_declarations.specs.Typed.{TransactionBody}
use Rattle.cad_world.specs.Begin.{begun}
use Rattle.cad_world.specs.Fronts.{Front}
use Rattle.cad_world.specs.Rows.{Row}
use Rattle.cad_world.specs.State.{Program, World}
use Rattle.cad_evaluation.specs.Evaluation.{calls_to}
use Rattle.cad_runs.specs.Commands.{failed, bad, are_signers, types_of}
use Rattle.cad_runs.specs.Run.{bound, run_transaction}
use Rattle.cad_run_outcomes.specs.Outcomes.{Outcome, stays, settled}
use Rattle.cad_run_worlds.specs.Replies.{AreArguments}

-- ---- runs

-- the transaction runs over a World on a row of arguments with so many units, and comes to this
abbrev pub Ran : Front → World → Program → TransactionBody → Row → List Address → ℕ → Outcome → Type 0
Ran front w p t r signers units outcome = settled (run_transaction front (calls_to front (bound units)) (bound units) t r signers (begun p units w)) ≡ outcome

-- ---- replies

-- What a program comes to as a transaction: 26 where it is none, where a signer has no account, and where there are more or fewer
-- signers than parameters of `prepare`; 25 where the arguments are more or fewer than its parameters, 24 where they aren't of
-- their types; else what its run comes to.
pub data Comes (front : Front) (w : World) (p : Program) (all : List Data) (signers : List Address) (units : ℕ) : Outcome → Type 0 where
  no_transaction : p.bodies.transaction ≡ None → Comes front w p all signers units (stays (bad 26))
  unsigned : {t : TransactionBody} → p.bodies.transaction ≡ Some t → are_signers w t signers ≡ false → Comes front w p all signers units (stays (bad 26))
  miscounted : {t : TransactionBody} → p.bodies.transaction ≡ Some t → are_signers w t signers ≡ true → length all ≢ length t.parameters → Comes front w p all signers units (stays (bad 25))
  unfit : {t : TransactionBody} → p.bodies.transaction ≡ Some t → are_signers w t signers ≡ true → length all ≡ length t.parameters
      → ((r : Row) → AreArguments (argument_shapes p.tables) (types_of t.parameters) all r → ⊥) → Comes front w p all signers units (stays (bad 24))
  runs : {t : TransactionBody} {r : Row} {outcome : Outcome} → p.bodies.transaction ≡ Some t → are_signers w t signers ≡ true → HasDistinctFields p.tables
      → AreArguments (argument_shapes p.tables) (types_of t.parameters) all r → Ran front w p t r signers units outcome → Comes front w p all signers units outcome

-- a transaction comes to one outcome at most over a World
abbrev pub OneOutcome : Type 0
OneOutcome = (front : Front) (w : World) (p : Program) (all : List Data) (signers : List Address) (units : ℕ) (x y : Outcome)
    → Comes front w p all signers units x → Comes front w p all signers units y → x ≡ y

-- an outcome under a front end is one under each that says what it says, where the run didn't ask it of a code of which it says nothing
abbrev pub OutcomesExtend : Type 0
OutcomesExtend = (f g : Front) (w : World) (p : Program) (all : List Data) (signers : List Address) (units : ℕ) (outcome : Outcome)
    → Extends f g → Comes f w p all signers units outcome → outcome ≢ stays (failed 0) → Comes g w p all signers units outcome
