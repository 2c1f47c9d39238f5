use Rattle.std.proofs.Common.{◌≡◌, drop, map}
use Rattle.cad_syntax.specs.Types.{pure_type}
use Rattle.cad_types.specs.Views.{declarations}
use Rattle.cad_typing.specs.Containers.{all_below}
use Rattle.cad_infer_containers.proofs.containers.all_below.Given as goal

abbrev pub invariant-loop-u : goal.invariant-loop-u
invariant-loop-u l =
    all_below (declarations l.types) (map (λ u. pure_type u.now) (drop l.u-index l.all)) (pure_type l.t)
    ≡ all_below (declarations l.types) (map (λ u. pure_type u.now) l.all) (pure_type l.t)
