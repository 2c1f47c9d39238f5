use Rattle.std.proofs.Common.{◌≡◌, ◌++◌, take, map}
use Rattle.cad_types.specs.Views.{declarations}
use Rattle.cad_declarations.specs.Meets.{Each, Meets, own_types}
use Rattle.cad_declarations.specs.Views.{type_entry_of}
use Rattle.cad_conform.proofs.conform.first_unmet.Given as goal

abbrev pub invariant-loop-t : goal.invariant-loop-t
invariant-loop-t l =
    Each (Meets (declarations l.types) (map type_entry_of l.tables.types)) (own_types l.tables.contract (map type_entry_of (take l.t-index l.tables.types)))
