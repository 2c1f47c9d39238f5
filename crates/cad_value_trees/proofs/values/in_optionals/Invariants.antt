use Rattle.std.proofs.Common.{◌≡◌}
use Rattle.cad_values.specs.Values.{pure_value}
use Rattle.cad_world.specs.Trees.{in_optionals}
use Rattle.cad_value_trees.proofs.values.in_optionals.Given as goal

abbrev pub invariant-loop : goal.invariant-loop
invariant-loop l = pure_value l.all ≡ in_optionals l.counter (pure_value l.fn.value)
