use Rattle.std.proofs.Common.{IfOk, map, subst}
use Rattle.std.specs.Global.{Vec}
use Rattle.std.specs.Prelude.{option_map}
use Rattle.serde_json.specs.View.{view}
use Rattle.cad_rows.specs.Views.{pure_row}
use Rattle.cad_rows.specs.declared.tree.Place.{Place}
use Rattle.cad_values.specs.Shapes.{Shapes}
use Rattle.cad_run_worlds.specs.Code.{IsRow}
use Rattle.cad_run_worlds.proofs.ArgumentLaws.{all_ok}
use Rattle.cad_run_worlds.proofs.Turns.{type_at}
use Rattle.cad_run_worlds.proofs.arguments.row_of.Goals as goal

pub returns-clause-row : goal.returns-clause-row
returns-clause-row c =
    subst (λ (k : Shapes). IfOk c.row_by.result (λ o. IsRow k (map type_at c.args.types.now) (map view c.args.arguments.now) (option_map (λ (v : Vec Place). pure_row v.items) o)))
    c.in_ok-shapes.ensures.shapes c.row_by.ensures

pub returns-clause-distinct : goal.returns-clause-distinct
returns-clause-distinct c = all_ok c.row_by.result c.in_ok-shapes.ensures.distinct
