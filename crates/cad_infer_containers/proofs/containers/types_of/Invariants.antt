use Rattle.std.proofs.Common.{◌≡◌, ◌++◌, drop, map}
use Rattle.cad_syntax.specs.Types.{pure_type}
use Rattle.cad_environment.specs.Views.{typing_of}
use Rattle.cad_typing.specs.Containers.{types_of}
use Rattle.cad_infer_containers.proofs.containers.types_of.Given as goal

abbrev pub invariant-loop-x : goal.invariant-loop-x
invariant-loop-x l =
    map (λ t. pure_type t.now) l.types.items ++ types_of (map typing_of (drop l.x-index l.xs))
    ≡ types_of (map typing_of l.xs)
