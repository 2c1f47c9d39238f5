use Rattle.std.proofs.Common.{◌≡◌, map, drop}
use Rattle.cad_declarations.specs.Typed.{cases_of}
use Rattle.cad_declarations.specs.Views.{tables_of, case_of}
use Rattle.cad_paths.specs.Purity as spec
use Rattle.cad_pure.proofs.statements.are_pure_cases.Given as goal

abbrev pub invariant-loop-case : goal.invariant-loop-case
invariant-loop-case l =
    spec.are_pure_cases (tables_of l.tables) (cases_of (map case_of (drop l.case-index l.all))) ≡ spec.are_pure_cases (tables_of l.tables) (cases_of (map case_of l.all))
