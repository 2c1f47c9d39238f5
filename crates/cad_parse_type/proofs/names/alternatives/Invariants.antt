use Rattle.std.proofs.Common.{◌≡◌, length, ◌-◌}
use Rattle.cad_parse_type.specs.Code.Reading as spec
use Rattle.cad_parse_type.specs.Code.Views.{seen}
use Rattle.cad_parse_type.proofs.names.alternatives.Given as goal

abbrev pub invariant-loop-turn : goal.invariant-loop-turn
invariant-loop-turn l =
    spec.alternatives (length l.spot.tokens.now) l.fn.found (seen l.spot)
    ≡ spec.alternatives (l._turn-end - l._turn) l.found (seen l.rest)
