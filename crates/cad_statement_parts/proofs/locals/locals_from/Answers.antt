use Rattle.std.proofs.Common.{rules, arith, map}
use Rattle.cad_environment.specs.Views.{local_of}
use Rattle.cad_statement_parts.proofs.Rows.{parameter_turn, parameters_end}
use Rattle.cad_statement_parts.proofs.locals.locals_from.Goals as goal

pub loop-parameter-preserved : goal.loop-parameter-preserved
loop-parameter-preserved c =
    parameter_turn c.args.parameters.now c.loop-parameter.parameter-index c.parameter-item.result (search rules) c.parameter-item.is
    c.loop-parameter.all.items c.push.new.self.items _ c.loop-parameter.next _ _ c.in_ok-push.ensures.items c.in_ok-parameter_local.ensures c.in_ok-next.ensures c.loop-parameter.invariant

pub returns : goal.returns
returns c = parameters_end c.args.parameters.now c.loop-parameter.parameter-index c.loop-parameter.next (map local_of c.loop-parameter.all.items) _ (omega arith) c.loop-parameter.invariant
