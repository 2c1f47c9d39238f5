use Rattle.std.proofs.Common.{rules, arith, map, [], ◌∷◌, ◌++◌, ◌∙◌, ap}
use Rattle.std.specs.Borrow.{Bor}
use Rattle.std.specs.List.{filter_map}
use Rattle.cad_grammar.specs.Views.{expr_of}
use Rattle.cad_grammar.specs.declared.expression.Expr.{Expr}
use Rattle.cad_declarations.specs.Views.{before_of}
use Rattle.cad_environment.specs.Views.{environment_of}
use Rattle.cad_typing.specs.Conditions.{value_at_entry}
use Rattle.cad_statements.proofs.Rows.{found_end, found_turn}
use Rattle.cad_statements.proofs.conditions.push_values.Goals as goal

pub loop-value-preserved : goal.loop-value-preserved
loop-value-preserved c =
    found_turn (environment_of c.args.env) c.args.at c.args.all.now c.loop-value.value-index c.value-item.result (search rules)
    (map before_of c.loop-value.values.items) _ _
    (c.in_ok-push_value.ensures ∙ ap (λ (z : Bor Expr). map before_of c.loop-value.values.items ++ filter_map (value_at_entry (environment_of c.args.env) c.args.at) (expr_of z.now ∷ [])) c.value-item.is)
    c.loop-value.invariant

pub returns : goal.returns
returns c = found_end (environment_of c.args.env) c.args.at c.args.all.now c.loop-value.value-index (map before_of c.loop-value.values.items) _ (omega arith) c.loop-value.invariant
