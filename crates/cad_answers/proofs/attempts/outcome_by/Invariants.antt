use Rattle.cad_fronts.specs.Views.{front_of}
use Rattle.cad_loads.specs.Fronts.{IsRight}
use Rattle.cad_answers.proofs.attempts.outcome_by.Given as goal

abbrev pub invariant-loop : goal.invariant-loop
invariant-loop l = IsRight (front_of l.verdicts)
