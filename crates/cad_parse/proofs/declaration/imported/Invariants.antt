use Rattle.std.proofs.Common.{◌≡◌, length, ◌-◌}
use Rattle.cad_parse.specs.Code.Reading.{imported}
use Rattle.cad_parse_type.specs.Code.Views.{seen}
use Rattle.cad_parse.proofs.declaration.imported.Given as goal

abbrev pub invariant-loop-turn : goal.invariant-loop-turn
invariant-loop-turn l =
    imported (length l.spot.tokens.now) l.fn.names (seen l.spot)
    ≡ imported (l._turn-end - l._turn) l.names (seen l.here)
