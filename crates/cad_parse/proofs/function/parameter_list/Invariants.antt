use Rattle.std.proofs.Common.{◌≡◌, [], length, ◌-◌}
use Rattle.cad_grammar.specs.declared.token.Sign.TheVariants as s
use Rattle.cad_parse_type.specs.Code.Reading.{listed}
use Rattle.cad_parse.specs.Code.Parts as parts
use Rattle.cad_parse.specs.Code.Views.{parameters_in}
use Rattle.cad_parse_type.specs.Code.Views.{seen}
use Rattle.cad_parse.proofs.function.parameter_list.Given as goal

abbrev pub invariant-loop-turn : goal.invariant-loop-turn
invariant-loop-turn l =
    listed parts.parameter s.CloseParenthesis (length l.spot.tokens.now) [] (seen l.spot)
    ≡ listed parts.parameter s.CloseParenthesis (l._turn-end - l._turn) (parameters_in l.found) (seen l.here)
