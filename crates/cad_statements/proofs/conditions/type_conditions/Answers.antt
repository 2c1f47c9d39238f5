use Rattle.std.proofs.Common.{map, ap, ◌∙◌}
use Rattle.cad_grammar.specs.Views.{condition_of}
use Rattle.cad_declarations.specs.Views as typed
use Rattle.cad_environment.specs.Views.{environment_of}
use Rattle.cad_typing.specs.Conditions as spec
use Rattle.cad_statements.proofs.Turns.{no_row_before}
use Rattle.cad_statements.proofs.conditions.type_conditions.Goals as goal

pub returns-in-Ok : goal.returns-in-Ok
returns-in-Ok c =
    c.kept.ensures ∙ c.in-Ok.ensures
    ∙ no_row_before (map typed.condition_of c.new-conditions.result.items) (spec.type_conditions (environment_of c.args.env) c.args.at (map condition_of c.args.all.now)) (ap (map typed.condition_of) c.new-conditions.ensures.items)
