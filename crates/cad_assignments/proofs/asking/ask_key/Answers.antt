use Rattle.std.proofs.Common.{subst}
use Rattle.cad_outcomes.specs.Outcomes.{no_value}
use Rattle.cad_state.specs.Views.{FindsAndCarriesOut}
use Rattle.cad_assignments.specs.Code.Fills.{asked}
use Rattle.cad_assignments.specs.declared.asking.Inner.TheVariants.{Keys}
use Rattle.cad_assignments.proofs.asking.ask_key.Goals as goal

pub returns-in-Ok : goal.returns-in-Ok
returns-in-Ok c = subst (λ t. FindsAndCarriesOut no_value (asked Keys c.args.label t) c.args.state.now c.ask-answer.new.state c.ask-answer.result) c.in-Ok.ensures c.ask-answer.ensures
