use Rattle.std.proofs.Common.{◌≡◌, ◌++◌, drop}
use Rattle.std.specs.Prelude.{filter}
use Rattle.cad_contracts.specs.Views.{entry_of}
use Rattle.cad_declarations.specs.Imports as imp
use Rattle.cad_entries.proofs.known.push_imported_entitlements.Given as goal

abbrev pub invariant-loop-id : goal.invariant-loop-id
invariant-loop-id l =
    l.all.items ++ filter (imp.is_part_of (entry_of l.contract).id) (drop l.id-index l.id-items) ≡ l.initial.all.items ++ (entry_of l.contract).entitlements
