use Rattle.std.proofs.Common.{◌≡◌, map, drop}
use Rattle.cad_declarations.specs.Names.{has_name}
use Rattle.cad_heads.proofs.names.is_among.Given as goal

abbrev pub invariant-loop-other : goal.invariant-loop-other
invariant-loop-other l =
    has_name (map (λ n. n.now) (drop l.other-index l.names)) l.name ≡ has_name (map (λ n. n.now) l.names) l.name
