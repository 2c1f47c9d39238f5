use Rattle.std.proofs.Common.{◌≡◌, ◌++◌, drop, map}
use Rattle.cad_syntax.specs.Types.{pure_type}
use Rattle.cad_infer_containers.specs.Views.{typings_of}
use Rattle.cad_typing.specs.Containers.{types_of}
use Rattle.cad_infer_containers.proofs.containers.types_of_values.Given as goal

abbrev pub invariant-loop-pair : goal.invariant-loop-pair
invariant-loop-pair l =
    map (λ t. pure_type t.now) l.types.items ++ types_of (map (λ p. p.1) (map typings_of (drop l.pair-index l.pairs)))
    ≡ types_of (map (λ p. p.1) (map typings_of l.pairs))
