use Rattle.std.proofs.Common.{◌≡◌, drop, map}
use Rattle.cad_syntax.specs.Types.{pure_type}
use Rattle.cad_types.specs.Views.{declarations}
use Rattle.cad_typing.specs.Containers.{first_above}
use Rattle.cad_infer_containers.proofs.containers.first_above.Given as goal

abbrev pub invariant-loop-t : goal.invariant-loop-t
invariant-loop-t l =
    first_above (declarations l.types) (map (λ u. pure_type u.now) l.all) (map (λ u. pure_type u.now) (drop l.t-index l.all))
    ≡ first_above (declarations l.types) (map (λ u. pure_type u.now) l.all) (map (λ u. pure_type u.now) l.all)
