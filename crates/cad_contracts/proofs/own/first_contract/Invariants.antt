use Rattle.std.proofs.Common.{◌≡◌, map, drop}
use Rattle.cad_declarations.specs.Own as own
use Rattle.cad_grammar.specs.Views as g
use Rattle.cad_contracts.proofs.own.first_contract.Given as goal

abbrev pub invariant-loop-declaration : goal.invariant-loop-declaration
invariant-loop-declaration l =
    own.first_contract (map g.decl_of (drop l.declaration-index l.declarations)) ≡ own.first_contract (map g.decl_of l.declarations)
