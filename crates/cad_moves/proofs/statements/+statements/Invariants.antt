use Rattle.std.proofs.Common.{◌≡◌, map, drop}
use Rattle.cad_declarations.specs.Typed.{statements_of, cases_of}
use Rattle.cad_declarations.specs.Views.{statement_of, case_of}
use Rattle.cad_paths.specs.Bodies as spec
use Rattle.cad_moves.specs.Views.{body_of, item_of, reading_of}
use Rattle.cad_moves.specs.Code.Rows.{row_over}
use Rattle.cad_moves.proofs.statements.+statements.Given as goal

abbrev pub invariant-statements_letters-loop-statement : goal.invariant-statements_letters-loop-statement
invariant-statements_letters-loop-statement l = row_over (map item_of l.items.items) (spec.statements_letters (reading_of l.reading) l.part (statements_of (map statement_of (drop l.statement-index l.all))))
    ≡ spec.statements_letters (reading_of l.reading) l.part (statements_of (map statement_of l.all))

abbrev pub invariant-cases_letters-loop-case : goal.invariant-cases_letters-loop-case
invariant-cases_letters-loop-case l = (row_over (map item_of l.items.items) (spec.cases_letters (reading_of l.reading) l.part l.at (cases_of (map case_of (drop l.case-index l.cases))) (body_of l.otherwise))
    ≡ spec.cases_letters (reading_of l.reading) l.part l.at (cases_of (map case_of l.cases)) (body_of l.otherwise))
    × (body_of l.otherwise ≡ body_of l.fn.otherwise)
