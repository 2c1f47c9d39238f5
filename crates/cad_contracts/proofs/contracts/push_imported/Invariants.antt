use Rattle.std.proofs.Common.{◌≡◌, ◌++◌, map, drop}
use Rattle.cad_declarations.specs.Imports as imp
use Rattle.cad_contracts.proofs.contracts.push_imported.Given as goal

abbrev pub invariant-loop-name : goal.invariant-loop-name
invariant-loop-name l =
    l.ids.items ++ map (imp.contract_id l.import.address) (drop l.name-index l.name-items) ≡ l.initial.ids.items ++ imp.imported l.import
