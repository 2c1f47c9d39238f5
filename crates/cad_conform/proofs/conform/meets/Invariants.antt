use Rattle.std.proofs.Common.{◌↔◌, drop, map}
use Rattle.cad_types.specs.Views.{declarations}
use Rattle.cad_declarations.specs.Meets.{Each, MeetsInterface}
use Rattle.cad_declarations.specs.Views.{type_entry_of}
use Rattle.cad_conform.proofs.conform.meets.Given as goal

abbrev pub invariant-loop-i : goal.invariant-loop-i
invariant-loop-i l =
    Each (MeetsInterface (declarations l.types) (map type_entry_of l.all) (type_entry_of l.t)) (drop l.i-index l.t.interfaces)
    ↔ Each (MeetsInterface (declarations l.types) (map type_entry_of l.all) (type_entry_of l.t)) l.t.interfaces
