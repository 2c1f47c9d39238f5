use Rattle.std.proofs.Common.{rules, arith, map, ◌++◌, ◌∙◌, ap}
use Rattle.std.specs.List.{filter_map}
use Rattle.cad_grammar.specs.Views.{expr_of}
use Rattle.cad_declarations.specs.Views.{before_of}
use Rattle.cad_environment.specs.Views.{environment_of}
use Rattle.cad_typing.specs.Conditions.{value_at_entry}
use Rattle.cad_statements.proofs.Rows.{entries_end, entry_turn}
use Rattle.cad_statements.proofs.conditions.push_entries.Goals as goal

pub loop-written-preserved : goal.loop-written-preserved
loop-written-preserved c =
    entry_turn (environment_of c.args.env) c.loop-written.number c.args.all.now c.loop-written.written-index c.written-item.result (search rules) c.written-item.is
    (map before_of c.loop-written.values.items) _ _ _
    (c.in_ok-push_values.ensures
    ∙ ap (λ z. map before_of c.loop-written.values.items ++ filter_map (value_at_entry (environment_of c.args.env) c.loop-written.number) (map (λ e. expr_of e.now) z)) c.deref.ensures.value
    ∙ ap (λ z. map before_of c.loop-written.values.items ++ filter_map (value_at_entry (environment_of c.args.env) c.loop-written.number) z) c.in_ok-inner.ensures)
    c.in_ok-number.ensures.value c.loop-written.invariant

pub returns : goal.returns
returns c = entries_end (environment_of c.args.env) c.loop-written.number c.args.all.now c.loop-written.written-index (map before_of c.loop-written.values.items) _ (omega arith) c.loop-written.invariant
