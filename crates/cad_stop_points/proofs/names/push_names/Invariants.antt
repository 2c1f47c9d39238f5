use Rattle.std.proofs.Common.{◌≡◌, drop, reverse}
use Rattle.cad_declarations.specs.Build as b
use Rattle.cad_stop_points.proofs.names.push_names.Given as goal

abbrev pub invariant-loop-name : goal.invariant-loop-name
invariant-loop-name l =
    b.with_names (drop l.name-index l.all) (reverse l.before) ≡ b.with_names l.all (reverse l.initial.before)
