-- What a deployment comes to, case by case.
use Rattle.std.proofs.Common.{◌≡◌, ◌≢◌, ℕ, List, Option, Some, None, option_map, subst}
use Rattle.std.specs.Global.{Vec}
use Rattle.serde_json.specs.Data.{Data}
use Rattle.cad_contract_shapes.specs.Arguments.{argument_shapes}
use Rattle.cad_declarations.specs.declared.program.Checked.{Checked}
use Rattle.cad_command_runs.specs.Passed.{initializer_types}
use Rattle.cad_rows.specs.Views.{pure_row}
use Rattle.cad_rows.specs.declared.tree.Place.{Place}
use Rattle.cad_runs.specs.Commands.{failed}
use Rattle.cad_run_worlds.specs.Code.{IsRow}
use Rattle.cad_run_worlds.specs.Replies.{AreArguments}
use Rattle.cad_state.specs.Views.{program_of}
use Rattle.cad_syntax.specs.declared.type_id.TypeId.{TypeId}
use Rattle.cad_run_outcomes.specs.Outcomes.{Outcome, stays}
use Rattle.cad_run_outcomes.specs.Views.{Tells}
use Rattle.cad_run_outcomes.specs.declared.outcome.TransactionOutcome.{TransactionOutcome}
use Rattle.cad_world.specs.Fronts.{Front}
use Rattle.cad_world.specs.Rows.{Row}
use Rattle.cad_world.specs.State.{Contract, Program, World}
use Rattle.cad_replies.specs.Deployments.{Comes, Ran}

-- what is told is what the program comes to
abbrev pub IsOutcome : Front → World → Program → TypeId → List ℕ → List Data → ℕ → TransactionOutcome → Type 0
IsOutcome front w p id code all units it = (o : Outcome) × Comes front w p id code all units o × (o ≢ stays (failed 0)) × Tells it o

-- what is told is what its run comes to
abbrev pub RunsTo : Front → World → Program → Contract → Row → ℕ → TransactionOutcome → Type 0
RunsTo front w p c r units it = (o : Outcome) × Ran front w p c r units o × (o ≢ stays (failed 0)) × Tells it o

-- errors of different numbers differ
pub failed_apart : (n m : ℕ) → n ≢ m → stays (failed n) ≢ stays (failed m)
failed_apart n m apart = λ e. apart cc

-- ---- arguments of a program behind an Rc

pub row_found : (x y : Checked) (id : TypeId) (all : List Data) (o : Option (Vec Place)) (row : Vec Place) → x ≡ y → o ≡ Some row
    → IsRow (argument_shapes (program_of x).tables) (initializer_types id (program_of x)) all (option_map (λ (v : Vec Place). pure_row v.items) o)
    → AreArguments (argument_shapes (program_of y).tables) (initializer_types id (program_of y)) all (pure_row row.items)
row_found x y id all o row same is found =
    subst (λ (z : Checked). AreArguments (argument_shapes (program_of z).tables) (initializer_types id (program_of z)) all (pure_row row.items)) same
    (subst (λ (q : Option (Vec Place)). IsRow (argument_shapes (program_of x).tables) (initializer_types id (program_of x)) all (option_map (λ (v : Vec Place). pure_row v.items) q)) is found)

pub row_missing : (x y : Checked) (id : TypeId) (all : List Data) (o : Option (Vec Place)) → x ≡ y → o ≡ None
    → IsRow (argument_shapes (program_of x).tables) (initializer_types id (program_of x)) all (option_map (λ (v : Vec Place). pure_row v.items) o)
    → (r : Row) → AreArguments (argument_shapes (program_of y).tables) (initializer_types id (program_of y)) all r → ⊥
row_missing x y id all o same is found =
    subst (λ (z : Checked). (r : Row) → AreArguments (argument_shapes (program_of z).tables) (initializer_types id (program_of z)) all r → ⊥) same
    (subst (λ (q : Option (Vec Place)). IsRow (argument_shapes (program_of x).tables) (initializer_types id (program_of x)) all (option_map (λ (v : Vec Place). pure_row v.items) q)) is found)
