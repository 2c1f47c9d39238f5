use Rattle.std.proofs.Common.{rules, arith, map}
use Rattle.cad_declarations.specs.Views.{variable_of}
use Rattle.cad_environment.specs.Views.{environment_of}
use Rattle.cad_statement_parts.proofs.Rows.{entries_end, entry_turn}
use Rattle.cad_statement_parts.proofs.locals.entries_of.Goals as goal

pub loop-v-preserved : goal.loop-v-preserved
loop-v-preserved c =
    entry_turn (environment_of c.args.env) c.args.locals.now c.loop-v.v-index c.v-item.result (search rules) c.v-item.is
    c.loop-v.all.items c.push.new.self.items _ _ c.in_ok-push.ensures.items c.in_ok-entry_of.ensures c.loop-v.invariant

pub returns : goal.returns
returns c = entries_end (environment_of c.args.env) c.args.locals.now c.loop-v.v-index (map variable_of c.loop-v.all.items) _ (omega arith) c.loop-v.invariant
