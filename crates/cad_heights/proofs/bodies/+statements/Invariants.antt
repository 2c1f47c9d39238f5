use Rattle.std.proofs.Common.{◌≡◌, ◌<◌, ◌^◌, ◌-◌, map, min, max, drop}
use Rattle.cad_grammar.specs.Trees.{cases_of, stmts_of}
use Rattle.cad_grammar.specs.Views.{case_of, stmt_of}
use Rattle.cad_heights.specs.Heights as spec
use Rattle.cad_heights.proofs.bodies.+statements.Given as goal

abbrev pub invariant-highest_of-loop-statement : goal.invariant-highest_of-loop-statement
invariant-highest_of-loop-statement l =
    (min (max l.found (spec.highest_of (stmts_of (map stmt_of (drop l.statement-index l.all))))) (2 ^ 64 - 1) ≡ min (spec.highest_of (stmts_of (map stmt_of l.all))) (2 ^ 64 - 1)) × (l.found < 2 ^ 64)

abbrev pub invariant-cases_highest-loop-case : goal.invariant-cases_highest-loop-case
invariant-cases_highest-loop-case l =
    (min (max l.found (spec.cases_highest (cases_of (map case_of (drop l.case-index l.all))))) (2 ^ 64 - 1) ≡ min (spec.cases_highest (cases_of (map case_of l.all))) (2 ^ 64 - 1)) × (l.found < 2 ^ 64)
