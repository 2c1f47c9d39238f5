use Rattle.std.proofs.Common.{◌≡◌, [], length, ◌-◌}
use Rattle.cad_parse_type.specs.Code.Reading as spec
use Rattle.cad_parse_type.specs.Code.Views.{seen}
use Rattle.cad_parse_type.proofs.names.listed.Given as goal

abbrev pub invariant-loop-turn : goal.invariant-loop-turn
invariant-loop-turn l =
    spec.listed spec.dotted l.closing (length l.spot.tokens.now) [] (seen l.spot)
    ≡ spec.listed spec.dotted l.closing (l._turn-end - l._turn) l.found (seen l.rest)
