use Rattle.std.proofs.Common.{◌≡◌, filter, take, fold, map}
use Rattle.cad_syntax.specs.TypeIds.{same_id}
use Rattle.cad_auth.specs.Images.{with_once}
use Rattle.cad_auth.proofs.mapping.add_targets.Given as goal

abbrev pub invariant-loop-pair : goal.invariant-loop-pair
invariant-loop-pair l =
    l.targets ≡ fold with_once l.initial.targets (map (λ pair. pair.1) (filter (λ pair. same_id pair.0 l.entitlement) (take l.pair-index l.pair-items)))
