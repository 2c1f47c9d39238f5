use Rattle.std.proofs.Common.{◌≡◌, ◌++◌, drop, map}
use Rattle.cad_declarations.specs.Names.{built_in}
use Rattle.cad_contract_shapes.proofs.built_in.push_all.Given as goal

abbrev pub invariant-loop-name : goal.invariant-loop-name
invariant-loop-name l = l.ids ++ map built_in (map (λ name. name.now) (drop l.name-index l.names)) ≡ l.fn.ids ++ map built_in (map (λ name. name.now) l.names)
