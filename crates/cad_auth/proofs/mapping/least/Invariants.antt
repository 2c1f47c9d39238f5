use Rattle.std.proofs.Common.{◌≡◌, filter, take}
use Rattle.cad_auth.specs.Images.{is_least}
use Rattle.cad_auth.proofs.mapping.least.Given as goal

abbrev pub invariant-loop-set : goal.invariant-loop-set
invariant-loop-set l =
    l.least.items ≡ filter (is_least l.these) (take l.set-index l.these)
