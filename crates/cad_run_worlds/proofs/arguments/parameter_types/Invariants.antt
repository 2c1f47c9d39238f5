use Rattle.std.proofs.Common.{◌≡◌, ◌++◌, drop, map}
use Rattle.cad_declarations.specs.Views.{variable_of}
use Rattle.cad_runs.specs.Commands.{types_of}
use Rattle.cad_syntax.specs.Types.{pure_type}
use Rattle.cad_run_worlds.proofs.arguments.parameter_types.Given as goal

abbrev pub invariant-loop-parameter : goal.invariant-loop-parameter
invariant-loop-parameter l =
    map (λ t. pure_type t.now) l.types.items ++ types_of (map variable_of (drop l.parameter-index l.parameters)) ≡ types_of (map variable_of l.parameters)
