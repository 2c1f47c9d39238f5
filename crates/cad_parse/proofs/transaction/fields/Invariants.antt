use Rattle.std.proofs.Common.{◌≡◌, [], length, ◌-◌}
use Rattle.cad_parse.specs.Code.Reading.{fields}
use Rattle.cad_parse.specs.Code.Views.{fields_in}
use Rattle.cad_parse_type.specs.Code.Views.{seen}
use Rattle.cad_parse.proofs.transaction.fields.Given as goal

abbrev pub invariant-loop-turn : goal.invariant-loop-turn
invariant-loop-turn l =
    fields (length l.spot.tokens.now) [] (seen l.spot)
    ≡ fields (l._turn-end - l._turn) (fields_in l.found) (seen l.here)
