use Rattle.std.proofs.Common.{◌≡◌, ◌++◌, map, drop}
use Rattle.cad_function_sources.specs.Sources as view
use Rattle.cad_function_sources.proofs.sources.pieces_of.Given as goal

abbrev pub invariant-loop-source : goal.invariant-loop-source
invariant-loop-source l = map view.piece_of l.pieces.items ++ view.pieces l.name (drop l.source-index l.all) ≡ view.pieces l.name l.all
