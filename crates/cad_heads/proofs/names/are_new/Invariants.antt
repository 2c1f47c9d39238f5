use Rattle.std.proofs.Common.{◌≡◌, [], map, drop}
use Rattle.cad_declarations.specs.Points.{are_new}
use Rattle.cad_heads.proofs.Fresh.{turned}
use Rattle.cad_heads.proofs.names.are_new.Given as goal

abbrev pub invariant-loop-name : goal.invariant-loop-name
invariant-loop-name l = are_new (turned (map (λ n. n.now) l.before.items) []) (map (λ n. n.now) (drop l.name-index l.names)) ≡ are_new [] (map (λ n. n.now) l.names)
