use Rattle.std.proofs.Common.{◌≡◌, length, ◌-◌}
use Rattle.cad_grammar.specs.Views.{type_of}
use Rattle.cad_parse_type.specs.Code.Reading as spec
use Rattle.cad_parse_type.specs.Code.Views.{seen}
use Rattle.cad_parse_type.proofs.types.with_marks.Given as goal

abbrev pub invariant-loop-turn : goal.invariant-loop-turn
invariant-loop-turn l =
    spec.climb spec.marked (spec.type_tail l.position) (length l.spot.tokens.now) (type_of l.fn.written) (seen l.spot)
    ≡ spec.climb spec.marked (spec.type_tail l.position) (l._turn-end - l._turn) (type_of l.written) (seen l.rest)
