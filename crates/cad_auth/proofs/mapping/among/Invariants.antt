use Rattle.std.proofs.Common.{◌≡◌, filter, take}
use Rattle.cad_auth.specs.Images.{is_named}
use Rattle.cad_auth.proofs.mapping.among.Given as goal

abbrev pub invariant-loop-entitlement : goal.invariant-loop-entitlement
invariant-loop-entitlement l =
    l.among ≡ filter (is_named l.these) (take l.entitlement-index l.order)
