use Rattle.std.proofs.Common.{IfOk, List, map, ap, ◌∙◌, subst}
use Rattle.std.specs.Global.{Vec}
use Rattle.std.specs.Prelude.{option_map}
use Rattle.serde_json.specs.View.{view}
use Rattle.cad_contract_shapes.specs.Arguments.{argument_shapes}
use Rattle.cad_rows.specs.Views.{pure_row}
use Rattle.cad_rows.specs.declared.tree.Place.{Place}
use Rattle.cad_run_worlds.proofs.Turns.{type_at}
use Rattle.cad_run_worlds.specs.Code.{IsRow}
use Rattle.cad_state.specs.Views.{program_of}
use Rattle.cad_syntax.specs.Types.{PureType}
use Rattle.cad_replies.proofs.deployment_arguments.initializer_row.Goals as goal

pub returns-clause-row : goal.returns-clause-row
returns-clause-row c =
    subst (λ (types : List PureType). IfOk c.row_of.result (λ o. IsRow (argument_shapes (program_of c.args.checked.now).tables) types (map view c.args.arguments.now) (option_map (λ (v : Vec Place). pure_row v.items) o)))
    (ap (map type_at) c.as_slice.ensures.value ∙ c.in_ok-types.ensures ∙ c.initializer_parameters.ensures) c.row_of.ensures.row

pub returns-clause-distinct : goal.returns-clause-distinct
returns-clause-distinct c = c.row_of.ensures.distinct
