use Rattle.std.proofs.Common.{◌≡◌, [], length, ◌-◌}
use Rattle.cad_grammar.specs.declared.token.Sign.TheVariants as s
use Rattle.cad_parse.specs.Code.Parts.{repeated}
use Rattle.cad_parse.specs.Code.Reading as spec
use Rattle.cad_parse.specs.Code.Views.{items_in}
use Rattle.cad_parse_type.specs.Code.Views.{seen}
use Rattle.cad_parse.proofs.composite.enum_cases.Given as goal

abbrev pub invariant-loop-turn : goal.invariant-loop-turn
invariant-loop-turn l =
    repeated spec.enum_case s.CloseBrace (length l.spot.tokens.now) [] (seen l.spot)
    ≡ repeated spec.enum_case s.CloseBrace (l._turn-end - l._turn) (items_in l.found) (seen l.here)
