use Rattle.std.proofs.Common.{rules, ◌≡◌, ◌+◌, drop, [], refl, ap, map, ◌∙◌, arith}
use Rattle.std.proofs.lemmas.List.{drop_all}
use Rattle.cad_declarations.specs.Typed.{statements_of, cases_of}
use Rattle.cad_declarations.specs.Views.{statement_of, case_of}
use Rattle.cad_paths.specs.Paths.{seq, either}
use Rattle.cad_paths.specs.Bodies as spec
use Rattle.cad_moves.specs.Views.{does, or_else, last, item_of, body_of, reading_of}
use Rattle.cad_moves.proofs.Rows.{over_end}
use Rattle.cad_moves.proofs.Turns.{push_step, statements_step, cases_step}
use Rattle.cad_moves.proofs.statements.+statements.Goals as goal

pub statements_letters-loop-statement-preserved : goal.statements_letters-loop-statement-preserved
statements_letters-loop-statement-preserved t c =
    c.in_ok-scope_behind.ensures _ ∙ c.in_ok-push_do.ensures _
    ∙ statements_step (reading_of c.args.reading.now) c.args.part c.args.all.now c.loop-statement.statement-index c.statement-item.result (search rules) c.statement-item.is (map item_of c.loop-statement.items.items) _ _
    c.in_ok-body.ensures c.loop-statement.invariant

pub cases_letters-loop-case-preserved : goal.cases_letters-loop-case-preserved
cases_letters-loop-case-preserved t c = (
  c.in_ok-push_or.ensures _ ∙ c.in_ok-push_do.ensures _
      ∙ cases_step (reading_of c.args.reading.now) c.args.part c.args.at c.args.cases.now _ c.loop-case.case-index c.case-item.result (search rules) c.case-item.is (map item_of c.loop-case.items.items) _ _ _
      c.in_ok-value.ensures c.in_ok-body.ensures c.loop-case.invariant.0,
  c.loop-case.invariant.1,
)

pub cases_letters-returns : goal.cases_letters-returns
cases_letters-returns t c =
    let n : drop c.loop-case.case-index c.args.cases.now ≡ [] = drop_all c.loop-case.case-index c.args.cases.now (omega arith) in
    c.block.ensures ∙ over_end _ ∙ c.in_ok-push_last.ensures _ ∙ (rw n at c.loop-case.invariant).0
    ∙ ap (spec.cases_letters (reading_of c.args.reading.now) c.args.part c.args.at (cases_of (map case_of c.args.cases.now))) c.loop-case.invariant.1

pub statements_letters-returns : goal.statements_letters-returns
statements_letters-returns t c =
    let n : drop c.loop-statement.statement-index c.args.all.now ≡ [] = drop_all c.loop-statement.statement-index c.args.all.now (omega arith) in
    c.block.ensures ∙ over_end c.loop-statement.items.items ∙ (rw n at c.loop-statement.invariant)
