use Rattle.std.proofs.Common.{◌≡◌, [], take, fold}
use Rattle.std.specs.List.{flat_map}
use Rattle.cad_auth.specs.Images.{with_once, targets_of}
use Rattle.cad_auth.proofs.mapping.replaced.Given as goal

abbrev pub invariant-loop-entitlement : goal.invariant-loop-entitlement
invariant-loop-entitlement l =
    l.targets ≡ fold with_once [] (flat_map (targets_of l.map) (take l.entitlement-index l.set))
