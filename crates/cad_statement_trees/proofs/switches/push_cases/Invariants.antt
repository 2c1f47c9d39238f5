use Rattle.std.proofs.Common.{◌≡◌, map, deque_len}
use Rattle.cad_declarations.specs.Views.{term_of, block_of, case_of}
use Rattle.cad_typing.specs.StatementForms as spec
use Rattle.cad_statement_trees.proofs.Cases.{cases_before}
use Rattle.cad_statement_trees.proofs.switches.push_cases.Given as goal

abbrev pub invariant-loop-value : goal.invariant-loop-value
invariant-loop-value l =
    cases_before (map case_of l.all.items) (spec.cases_with (map term_of l.left.items) (map block_of l.rest.items))
    ≡ spec.cases_with (map term_of l.initial.left.items) (map block_of l.initial.rest.items)

abbrev pub decreases-loop-value : goal.decreases-loop-value
decreases-loop-value l = deque_len l.left
