use Rattle.std.proofs.Common.{rules, arith, map}
use Rattle.cad_declarations.specs.Views as typed
use Rattle.cad_environment.specs.Views.{environment_of}
use Rattle.cad_statements.proofs.Rows.{condition_stops, condition_turn, conditions_end}
use Rattle.cad_statements.proofs.conditions.push_conditions.Goals as goal

pub loop-written-preserved : goal.loop-written-preserved
loop-written-preserved c =
    condition_turn (environment_of c.loop-written.here) c.loop-written.number c.args.all.now c.loop-written.written-index c.written-item.result (search rules) c.written-item.is
    (typed.condition_of c.in-Some.x) (map typed.condition_of c.loop-written.found.items) _ _ _ _ (rw c.in-Some.is at c.in_ok-x.ensures)
    c.in_ok-push_condition.ensures c.in_ok-here.ensures c.in_ok-number.ensures.value c.loop-written.invariant

pub returns-in_default : goal.returns-in_default
returns-in_default c =
    condition_stops (environment_of c.loop-written.here) c.loop-written.number c.args.all.now c.loop-written.written-index c.written-item.result (search rules) c.written-item.is
    (map typed.condition_of c.loop-written.found.items) _ (rw c.in_default.is at c.in_ok-x.ensures) c.loop-written.invariant

pub returns : goal.returns
returns c =
    conditions_end (environment_of c.loop-written.here) c.loop-written.number c.args.all.now c.loop-written.written-index (map typed.condition_of c.loop-written.found.items) _ (omega arith) c.loop-written.invariant
