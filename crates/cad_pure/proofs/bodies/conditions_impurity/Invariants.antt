use Rattle.std.proofs.Common.{◌≡◌, map, drop}
use Rattle.cad_declarations.specs.Views.{tables_of, condition_of}
use Rattle.cad_paths.specs.Purity as spec
use Rattle.cad_pure.proofs.bodies.conditions_impurity.Given as goal

abbrev pub invariant-loop-i : goal.invariant-loop-i
invariant-loop-i l = l.found ≡ spec.conditions_impurity (tables_of l.tables) (map condition_of (drop l.i l.all))
