use Rattle.std.proofs.Common.{◌≡◌, map, drop}
use Rattle.cad_declarations.specs.Typed.{statements_of, cases_of}
use Rattle.cad_declarations.specs.Views.{statement_of, case_of}
use Rattle.cad_paths.specs.Purity as spec
use Rattle.cad_pure.specs.Views.{view_of}
use Rattle.cad_pure.proofs.statements.+statements.Given as goal

abbrev pub invariant-statements_impurity-loop-i : goal.invariant-statements_impurity-loop-i
invariant-statements_impurity-loop-i l = l.found ≡ spec.statements_impurity (view_of l.view) (statements_of (map statement_of (drop l.i l.all)))

abbrev pub invariant-cases_impurity-loop-i : goal.invariant-cases_impurity-loop-i
invariant-cases_impurity-loop-i l = l.found ≡ spec.cases_impurity (view_of l.view) (cases_of (map case_of (drop l.i l.all)))
