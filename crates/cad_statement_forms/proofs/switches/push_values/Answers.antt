use Rattle.std.proofs.Common.{rules, arith, map}
use Rattle.cad_syntax.specs.Types.{pure_type}
use Rattle.cad_grammar.specs.Views.{expr_of}
use Rattle.cad_declarations.specs.Views.{term_of}
use Rattle.cad_environment.specs.Views.{environment_of, typing_of}
use Rattle.cad_statement_forms.proofs.Rows.{value_stops, value_turn, values_end}
use Rattle.cad_statement_forms.proofs.switches.push_values.Goals as goal

pub loop-case-preserved : goal.loop-case-preserved
loop-case-preserved c =
    value_turn (environment_of c.args.env) (expr_of c.args.value.now) (pure_type c.args.t.now) c.args.cases.now c.loop-case.case-index c.case-item.result (search rules) c.case-item.is
    (typing_of c.in-Some.y) (map term_of c.loop-case.terms.items) _ _ (rw c.in-Some.is at c.in_ok-y.ensures) c.in_ok-push_typing.ensures c.loop-case.invariant

pub returns-in_default : goal.returns-in_default
returns-in_default c =
    value_stops (environment_of c.args.env) (expr_of c.args.value.now) (pure_type c.args.t.now) c.args.cases.now c.loop-case.case-index c.case-item.result (search rules) c.case-item.is
    (map term_of c.loop-case.terms.items) _ (rw c.in_default.is at c.in_ok-y.ensures) c.loop-case.invariant

pub returns : goal.returns
returns c =
    values_end (environment_of c.args.env) (expr_of c.args.value.now) (pure_type c.args.t.now) c.args.cases.now c.loop-case.case-index (map term_of c.loop-case.terms.items) _ (omega arith) c.loop-case.invariant
