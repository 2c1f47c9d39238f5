use Rattle.std.proofs.Common.{◌≡◌, [], length, ◌-◌}
use Rattle.cad_parse.specs.Code.Parts.{chain}
use Rattle.cad_parse.specs.Code.Reading as spec
use Rattle.cad_parse.specs.Code.Views.{declarations_in}
use Rattle.cad_parse_type.specs.Code.Views.{seen}
use Rattle.cad_parse.proofs.declaration.declarations.Given as goal

abbrev pub invariant-loop-turn : goal.invariant-loop-turn
invariant-loop-turn l =
    chain spec.declaration (length l.spot.tokens.now) [] (seen l.spot)
    ≡ chain spec.declaration (l._turn-end - l._turn) (declarations_in l.found) (seen l.here)
