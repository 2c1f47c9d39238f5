use Rattle.std.proofs.Common.{◌↔◌, drop, map}
use Rattle.cad_types.specs.Views.{declarations}
use Rattle.cad_declarations.specs.Meets.{Each, Offers, offer, MeetsInterface}
use Rattle.cad_declarations.specs.Views.{member_of, type_entry_of}
use Rattle.cad_conform.proofs.conform.meets_interface.Given as goal

abbrev pub invariant-loop-asked : goal.invariant-loop-asked
invariant-loop-asked l =
    Each (λ asked. Offers (declarations l.types) (offer (map type_entry_of l.all) (type_entry_of l.t) asked.name) asked) (map member_of (drop l.asked-index l.asked-items))
    ↔ MeetsInterface (declarations l.types) (map type_entry_of l.all) (type_entry_of l.t) l.interface
