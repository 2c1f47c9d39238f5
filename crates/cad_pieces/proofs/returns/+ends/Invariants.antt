use Rattle.std.proofs.Common.{◌≡◌, ◌≤◌, ℕ, map, drop, length}
use Rattle.cad_declarations.specs.Typed.{statements_of, cases_of}
use Rattle.cad_declarations.specs.Views.{statement_of, case_of}
use Rattle.cad_pieces.specs.Code.Comes as spec
use Rattle.cad_pieces.proofs.returns.+ends.Given as goal

abbrev pub invariant-statements_ends-loop-left : goal.invariant-statements_ends-loop-left
invariant-statements_ends-loop-left l = record {
  within : l.left ≤ length l.all;
  so_far : l.ends ≡ spec.statements_ends (statements_of (map statement_of (drop l.left l.all)));
}

abbrev pub decreases-statements_ends-loop-left : goal.decreases-statements_ends-loop-left
decreases-statements_ends-loop-left l = l.left

abbrev pub invariant-cases_ends-loop-left : goal.invariant-cases_ends-loop-left
invariant-cases_ends-loop-left l = record {
  within : l.left ≤ length l.all;
  so_far : l.ends ≡ spec.cases_ends (cases_of (map case_of (drop l.left l.all))) l.fn.otherwise;
}

abbrev pub decreases-cases_ends-loop-left : goal.decreases-cases_ends-loop-left
decreases-cases_ends-loop-left l = l.left
