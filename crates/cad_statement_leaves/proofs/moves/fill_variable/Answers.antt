use Rattle.cad_evaluation.specs.Changing.{fill}
use Rattle.cad_outcomes.specs.Outcomes.{no_value}
use Rattle.cad_rows.specs.Views.{pure_tree}
use Rattle.cad_state.specs.Views.{CarriesOut}
use Rattle.cad_world.specs.Locations.{variable}
use Rattle.std.proofs.Common.{subst}
use Rattle.cad_statement_leaves.proofs.moves.fill_variable.Goals as goal

pub returns : goal.returns
returns c =
    subst (λ t. CarriesOut no_value (fill (variable c.args.number) (pure_tree t)) c.args.state.now c.fill_variable.new.self c.fill_variable.result) c.unboxed.ensures c.fill_variable.ensures
