use Rattle.std.proofs.Common.{◌≡◌, ◌++◌, map, drop}
use Rattle.cad_contracts.specs.Views.{entry_of}
use Rattle.cad_declarations.specs.Imports as imp
use Rattle.cad_contracts.proofs.contracts.all_import_links.Given as goal

abbrev pub invariant-loop-contract : goal.invariant-loop-contract
invariant-loop-contract l =
    l.links.items ++ imp.import_links (map entry_of (drop l.contract-index l.contracts)) ≡ imp.import_links (map entry_of l.contracts)
