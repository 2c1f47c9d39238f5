use Rattle.cad_evaluation.specs.Changing.{force_assigned}
use Rattle.cad_locations.specs.Views.{location_of}
use Rattle.cad_outcomes.specs.Outcomes.{no_value}
use Rattle.cad_rows.specs.Views.{pure_tree}
use Rattle.cad_state.specs.Views.{FindsAndCarriesOut}
use Rattle.std.proofs.Common.{subst}
use Rattle.cad_statement_leaves.proofs.moves.force_assign.Goals as goal

pub returns : goal.returns
returns c =
    subst (λ t. FindsAndCarriesOut no_value (force_assigned (location_of c.args.location.now) (pure_tree t)) c.args.state.now c.force_assign.new.state c.force_assign.result) c.unboxed.ensures c.force_assign.ensures
