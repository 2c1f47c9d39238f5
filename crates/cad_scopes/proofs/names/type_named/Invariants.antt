use Rattle.std.proofs.Common.{◌≡◌, drop, map}
use Rattle.cad_declarations.specs.Names.{named_so, type_named}
use Rattle.cad_scopes.proofs.names.type_named.Given as goal

abbrev pub invariant-loop-text : goal.invariant-loop-text
invariant-loop-text l =
    type_named (map (λ row. named_so row.0.now row.1) (drop l.text-index l.names)) l.name ≡ type_named (map (λ row. named_so row.0.now row.1) l.names) l.name
