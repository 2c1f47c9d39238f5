use Rattle.std.proofs.Common.{◌≡◌, ◌++◌, drop}
use Rattle.cad_declarations.specs.Imports as imp
use Rattle.cad_contracts.proofs.contracts.all_imported.Given as goal

abbrev pub invariant-loop-import : goal.invariant-loop-import
invariant-loop-import l =
    l.ids.items ++ imp.all_imported (drop l.import-index l.imports) ≡ imp.all_imported l.imports
