use Rattle.std.proofs.Common.{◌≡◌, ◌+◌, map, drop}
use Rattle.cad_grammar.specs.Trees.{stmts_of, cases_of}
use Rattle.cad_grammar.specs.Views.{stmt_of, case_of}
use Rattle.cad_declarations.specs.Views.{statement_of, block_of}
use Rattle.cad_environment.specs.Views.{local_of}
use Rattle.cad_typing.specs.Statements as spec
use Rattle.cad_statement_parts.specs.Blocks.{inner}
use Rattle.cad_statements.specs.Rows.{before, row_before}
use Rattle.cad_statement_parts.specs.Views.{surroundings_of}
use Rattle.cad_statements.proofs.statements.+typing.Given as goal

abbrev pub invariant-take_statements-loop-statement : goal.invariant-take_statements-loop-statement
invariant-take_statements-loop-statement l = record {
  typed : before (map statement_of l.begun.trees.items) (spec.type_statements (inner (surroundings_of l.outer) (map local_of l.begun.locals.items) l.begun.in_use) l.next (stmts_of (map stmt_of (drop l.statement-index l.all))))
      ≡ before (map statement_of l.initial.begun.trees.items) (spec.type_statements (inner (surroundings_of l.outer) (map local_of l.initial.begun.locals.items) l.initial.begun.in_use) l.fn.at (stmts_of (map stmt_of l.all)));
  counted : l.next + spec.count_all (stmts_of (map stmt_of (drop l.statement-index l.all))) ≡ l.fn.at + spec.count_all (stmts_of (map stmt_of l.all));
}

abbrev pub invariant-push_bodies-loop-case : goal.invariant-push_bodies-loop-case
invariant-push_bodies-loop-case l = record {
  typed : row_before (map block_of l.bodies.items) (spec.type_cases (surroundings_of l.w) l.next (cases_of (map case_of (drop l.case-index l.cases))))
      ≡ row_before (map block_of l.initial.bodies.items) (spec.type_cases (surroundings_of l.w) l.fn.at (cases_of (map case_of l.cases)));
  counted : l.next + spec.count_cases (cases_of (map case_of (drop l.case-index l.cases))) ≡ l.fn.at + spec.count_cases (cases_of (map case_of l.cases));
}
