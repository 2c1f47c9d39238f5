use Rattle.std.proofs.Common.{subst, sym}
use Rattle.cad_evaluation.specs.Reading.{copied}
use Rattle.cad_evaluation.specs.Standing.{value_at}
use Rattle.cad_rows.specs.Views.{pure_tree}
use Rattle.cad_state.specs.Views.{FindsAndCarriesOut}
use Rattle.cad_standing.specs.Actions.{and_then}
use Rattle.cad_standing.specs.Views.{standing_of}
use Rattle.cad_standing.specs.declared.standing.Standing.{Standing}
use Rattle.cad_standing.proofs.values.copy.Goals as goal

pub returns-in-Here : goal.returns-in-Here
returns-in-Here c =
    subst (λ (p : Standing). FindsAndCarriesOut pure_tree (and_then (value_at (standing_of p)) copied) c.args.state.now c.copy_here-value.new.state c.copy_here-value.result)
    (sym c.in-Here.is) c.copy_here-value.ensures

pub returns-in-LedBy : goal.returns-in-LedBy
returns-in-LedBy c =
    subst (λ (p : Standing). FindsAndCarriesOut pure_tree (and_then (value_at (standing_of p)) copied) c.args.state.now c.copy_led-value.new.state c.copy_led-value.result)
    (sym c.in-LedBy.is) c.copy_led-value.ensures
