use Rattle.std.proofs.Common.{◌≡◌, drop, reverse, []}
use Rattle.cad_declarations.specs.Build as b
use Rattle.cad_stop_points.proofs.names.import_names.Given as goal

abbrev pub invariant-loop-import : goal.invariant-loop-import
invariant-loop-import l =
    b.with_names (b.import_names (drop l.import-index l.imports)) (reverse l.all) ≡ b.with_names (b.import_names l.imports) []
