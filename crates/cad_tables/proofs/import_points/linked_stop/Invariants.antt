use Rattle.std.proofs.Common.{◌≡◌, map, drop, reverse, []}
use Rattle.std.specs.Prelude.{option_map}
use Rattle.cad_contracts.specs.Views.{entry_of, own_of}
use Rattle.cad_tables.specs.Code.Beside.{no_scope}
use Rattle.cad_declarations.specs.Build as b
use Rattle.cad_tables.proofs.import_points.linked_stop.Given as goal

abbrev pub invariant-loop-import : goal.invariant-loop-import
invariant-loop-import l =
    b.first_stop no_scope (b.import_points (map entry_of l.contracts) (option_map own_of l.own) (reverse l.before) (drop l.import-index l.imports)) ≡ b.first_stop no_scope (b.import_points (map entry_of l.contracts) (option_map own_of l.own) [] l.imports)
