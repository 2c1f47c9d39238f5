use Rattle.std.proofs.Common.{◌≡◌, [], take, fold, map}
use Rattle.cad_auth.specs.Images.{with_set}
use Rattle.cad_auth.specs.Code.Tests.{alone}
use Rattle.cad_auth.proofs.mapping.sets_alone.Given as goal

abbrev pub invariant-loop-entitlement : goal.invariant-loop-entitlement
invariant-loop-entitlement l =
    l.kept.items ≡ fold with_set [] (map (alone l.map) (take l.entitlement-index l.entitlements))
