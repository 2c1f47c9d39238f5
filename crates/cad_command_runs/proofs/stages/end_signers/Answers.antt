use Rattle.std.proofs.Common.{◌≡◌, ◌+◌, length, map, subst, arith}
use Rattle.std.proofs.lemmas.List.{length-map}
use Rattle.cad_declarations.specs.Views.{variable_of}
use Rattle.cad_evaluation.specs.Ending.{ended}
use Rattle.cad_outcomes.specs.Outcomes.{no_value}
use Rattle.cad_state.specs.Views.{CarriesOut}
use Rattle.cad_command_runs.proofs.stages.end_signers.Goals as goal

pub returns : goal.returns
returns c =
    let fields = c.args.transaction.now.fields in
    let parameters = c.args.transaction.now.parameters in
    let count : c.len.result + c.len-2.result ≡ length (map variable_of fields.items) + length (map variable_of parameters.items) =
    omega (arith, c.len.ensures, c.len-2.ensures, fields.ok.0, parameters.ok.0, length-map fields.items variable_of, length-map parameters.items variable_of) in
    subst (λ n. CarriesOut no_value (ended n) c.args.state.now c.end_variables.new.state c.end_variables.result) count c.end_variables.ensures
