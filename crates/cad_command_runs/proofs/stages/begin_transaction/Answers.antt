use Rattle.std.proofs.Common.{◌≡◌, length, map, ap, subst, ◌∙◌, arith}
use Rattle.std.proofs.lemmas.List.{length-map}
use Rattle.cad_declarations.specs.Views.{variable_of}
use Rattle.cad_outcomes.specs.Outcomes.{no_value}
use Rattle.cad_rows.specs.Views.{pure_row}
use Rattle.cad_state.specs.Views.{CarriesOut}
use Rattle.cad_command_runs.specs.Code.Transactions.{begun_over}
use Rattle.cad_world.specs.Rows.{empty_places, join}
use Rattle.cad_command_runs.proofs.stages.begin_transaction.Goals as goal

pub returns-in-Ok : goal.returns-in-Ok
returns-in-Ok c =
    let fields = c.args.transaction.now.fields in
    let count : c.len.result ≡ length (map variable_of fields.items) = omega (arith, c.len.ensures, fields.ok.0, length-map fields.items variable_of) in
    subst (λ r. CarriesOut no_value (begun_over r) c.args.state.now c.begin_over.new.state c.begin_over.result)
    (c.in-Ok.ensures ∙ ap (λ n. join (empty_places n) (pure_row c.args.arguments.items)) count) c.begin_over.ensures
