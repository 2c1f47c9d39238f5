use Rattle.std.proofs.Common.{◌≡◌, drop, map}
use Rattle.cad_declarations.specs.Members as spec
use Rattle.cad_declarations.specs.Views.{type_entry_of}
use Rattle.cad_declarations.proofs.lookup.first_default.Given as goal

abbrev pub invariant-loop-id : goal.invariant-loop-id
invariant-loop-id l = spec.first_some (spec.default_in (map type_entry_of l.types) l.name) (drop l.id-index l.ids) ≡ spec.first_some (spec.default_in (map type_entry_of l.types) l.name) l.ids
