use Rattle.std.proofs.Common.{◌≡◌, length, ◌-◌}
use Rattle.cad_grammar.specs.TypeGrammar.{dot_name}
use Rattle.cad_parse_type.specs.Code.Reading as spec
use Rattle.cad_parse_type.specs.Code.Views.{seen}
use Rattle.cad_parse_type.proofs.names.with_further.Given as goal

abbrev pub invariant-loop-turn : goal.invariant-loop-turn
invariant-loop-turn l =
    spec.climb spec.appended dot_name (length l.spot.tokens.now) l.fn.names (seen l.spot)
    ≡ spec.climb spec.appended dot_name (l._turn-end - l._turn) l.names (seen l.rest)
