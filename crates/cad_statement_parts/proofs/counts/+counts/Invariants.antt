use Rattle.std.proofs.Common.{◌≡◌, ◌+◌, map, drop}
use Rattle.cad_grammar.specs.Trees.{stmts_of, cases_of}
use Rattle.cad_grammar.specs.Views.{stmt_of, case_of}
use Rattle.cad_typing.specs.Statements as spec
use Rattle.cad_statement_parts.proofs.counts.+counts.Given as goal

abbrev pub invariant-count_all-loop-statement : goal.invariant-count_all-loop-statement
invariant-count_all-loop-statement l =
    l.total + spec.count_all (stmts_of (map stmt_of (drop l.statement-index l.all))) ≡ spec.count_all (stmts_of (map stmt_of l.all))

abbrev pub invariant-count_cases-loop-case : goal.invariant-count_cases-loop-case
invariant-count_cases-loop-case l =
    l.total + spec.count_cases (cases_of (map case_of (drop l.case-index l.cases))) ≡ spec.count_cases (cases_of (map case_of l.cases))
