use Rattle.std.proofs.Common.{◌≡◌, [], length, ◌-◌}
use Rattle.cad_grammar.specs.declared.token.Sign.TheVariants as s
use Rattle.cad_parse.specs.Code.Parts.{repeated}
use Rattle.cad_parse.specs.Code.Parts as parts
use Rattle.cad_parse.specs.Code.Views.{conditions_in}
use Rattle.cad_parse_type.specs.Code.Views.{seen}
use Rattle.cad_parse.proofs.function.condition_list.Given as goal

abbrev pub invariant-loop-turn : goal.invariant-loop-turn
invariant-loop-turn l =
    repeated parts.parted_condition s.CloseBrace (length l.spot.tokens.now) [] (seen l.spot)
    ≡ repeated parts.parted_condition s.CloseBrace (l._turn-end - l._turn) (conditions_in l.found) (seen l.here)
