-- The row of arguments, case by case.
use Rattle.std.proofs.Common.{◌≡◌, ◌≢◌, List, map, length, Option, Some, None, option_map, sym, ◌∙◌, subst}
use Rattle.std.specs.Global.{Vec}
use Rattle.std.specs.Prelude.{Result, Ok, Err, IfOk}
use Rattle.std.proofs.lemmas.List.{length-map}
use Rattle.serde_json.specs.Data.{Data}
use Rattle.serde_json.specs.View.{view}
use Rattle.serde_json.specs.declared.value.Value as json
use Rattle.cad_contract_shapes.specs.Arguments.{argument_shapes, HasDistinctFields}
use Rattle.cad_declarations.specs.Views.{tables_of, variable_of}
use Rattle.cad_declarations.specs.declared.program.Checked.{Checked}
use Rattle.cad_declarations.specs.declared.statement.Variable.{Variable}
use Rattle.cad_rows.specs.Views.{pure_row}
use Rattle.cad_rows.specs.declared.tree.Place.{Place}
use Rattle.cad_runs.specs.Commands.{types_of}
use Rattle.cad_state.specs.Views.{program_of}
use Rattle.cad_world.specs.Rows.{Row}
use Rattle.cad_run_worlds.specs.Code.{IsRow}
use Rattle.cad_run_worlds.specs.Replies.{AreArguments}

-- ---- arguments

pub all_ok : {A E P : Type 0} (r : Result A E) → P → IfOk r (λ a. P)
all_ok (Ok a) p = p
all_ok (Err e) p = tt

-- of a program behind an Rc, and of parameters in a Vec
pub row_found : (x y : Checked) (ps qs : List Variable) (all : List Data) (o : Option (Vec Place)) (row : Vec Place) → x ≡ y → qs ≡ ps → o ≡ Some row
    → IsRow (argument_shapes (tables_of x.tables)) (types_of (map variable_of qs)) all (option_map (λ (v : Vec Place). pure_row v.items) o)
    → AreArguments (argument_shapes (program_of y).tables) (types_of (map variable_of ps)) all (pure_row row.items)
row_found x y ps qs all o row same them is found =
    subst (λ (z : Checked). AreArguments (argument_shapes (program_of z).tables) (types_of (map variable_of ps)) all (pure_row row.items)) same
    (subst (λ (q : Option (Vec Place)). IsRow (argument_shapes (tables_of x.tables)) (types_of (map variable_of ps)) all (option_map (λ (v : Vec Place). pure_row v.items) q)) is
    (subst (λ (xs : List Variable). IsRow (argument_shapes (tables_of x.tables)) (types_of (map variable_of xs)) all (option_map (λ (v : Vec Place). pure_row v.items) o)) them found))

pub row_missing : (x y : Checked) (ps qs : List Variable) (all : List Data) (o : Option (Vec Place)) → x ≡ y → qs ≡ ps → o ≡ None
    → IsRow (argument_shapes (tables_of x.tables)) (types_of (map variable_of qs)) all (option_map (λ (v : Vec Place). pure_row v.items) o)
    → (r : Row) → AreArguments (argument_shapes (program_of y).tables) (types_of (map variable_of ps)) all r → ⊥
row_missing x y ps qs all o same them is found =
    subst (λ (z : Checked). (r : Row) → AreArguments (argument_shapes (program_of z).tables) (types_of (map variable_of ps)) all r → ⊥) same
    (subst (λ (q : Option (Vec Place)). IsRow (argument_shapes (tables_of x.tables)) (types_of (map variable_of ps)) all (option_map (λ (v : Vec Place). pure_row v.items) q)) is
    (subst (λ (xs : List Variable). IsRow (argument_shapes (tables_of x.tables)) (types_of (map variable_of xs)) all (option_map (λ (v : Vec Place). pure_row v.items) o)) them found))

pub distinct_of : (x y : Checked) → x ≡ y → HasDistinctFields (tables_of x.tables) → HasDistinctFields (program_of y).tables
distinct_of x y same h = subst (λ (z : Checked). HasDistinctFields (program_of z).tables) same h

pub counts_agree : (all : List json.Value) (ps : List Variable) → length all ≡ length ps → length (map view all) ≡ length (map variable_of ps)
counts_agree all ps same = length-map all view ∙ same ∙ sym (length-map ps variable_of)

pub counts_differ : (all : List json.Value) (ps : List Variable) → (length all ≡ length ps → ⊥) → length (map view all) ≢ length (map variable_of ps)
counts_differ all ps differ = λ e. differ (sym (length-map all view) ∙ e ∙ length-map ps variable_of)
