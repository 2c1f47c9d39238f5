use Rattle.std.proofs.Common.{◌≡◌, ◌<◌, ◌^◌, ◌-◌, map, min, max, drop}
use Rattle.cad_grammar.specs.Views.{interface_member_of}
use Rattle.cad_heights.specs.Programs as spec
use Rattle.cad_heights.proofs.declarations.interface_height.Given as goal

abbrev pub invariant-loop-member : goal.invariant-loop-member
invariant-loop-member l =
    (min (max l.found (spec.greatest spec.interface_member_height (map interface_member_of (drop l.member-index l.all)))) (2 ^ 64 - 1) ≡ min (spec.greatest spec.interface_member_height (map interface_member_of l.all)) (2 ^ 64 - 1)) × (l.found < 2 ^ 64)
