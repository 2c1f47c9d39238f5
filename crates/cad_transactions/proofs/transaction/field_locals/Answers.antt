use Rattle.std.proofs.Common.{rules, arith, map}
use Rattle.cad_environment.specs.Views.{local_of}
use Rattle.cad_scopes.specs.Views.{scope_of}
use Rattle.cad_transactions.proofs.Rows.{field_turn, fields_end}
use Rattle.cad_transactions.proofs.transaction.field_locals.Goals as goal

pub loop-field-preserved : goal.loop-field-preserved
loop-field-preserved c =
    field_turn (scope_of c.args.scope) c.args.fields.now c.loop-field.field-index c.field-item.result (search rules) c.field-item.is
    c.loop-field.all.items c.push.new.self.items _ c.loop-field.next _ _ c.in_ok-push.ensures.items c.in_ok-field_local.ensures c.in_ok-next.ensures c.loop-field.invariant

pub returns : goal.returns
returns c = fields_end (scope_of c.args.scope) c.args.fields.now c.loop-field.field-index c.loop-field.next (map local_of c.loop-field.all.items) _ (omega arith) c.loop-field.invariant
