use Rattle.std.proofs.Common.{◌≡◌, map, drop, reverse}
use Rattle.std.specs.Prelude.{option_map}
use Rattle.cad_contracts.specs.Views.{entry_of, own_of}
use Rattle.cad_tables.specs.Code.Beside.{no_scope}
use Rattle.cad_declarations.specs.Build as b
use Rattle.cad_tables.proofs.import_points.names_stop.Given as goal

abbrev pub invariant-loop-name : goal.invariant-loop-name
invariant-loop-name l =
    b.first_stop no_scope (b.name_points (map entry_of l.contracts) (option_map own_of l.own) (reverse l.seen) l.import.address (drop l.name-index l.name-items)) ≡ b.first_stop no_scope (b.name_points (map entry_of l.contracts) (option_map own_of l.own) (reverse l.before) l.import.address l.import.names)
