use Rattle.std.specs.Prelude.{filter_map, option_map}
use Rattle.std.proofs.Common.{◌≡◌, drop, map}
use Rattle.cad_declarations.specs.Members.{default_in}
use Rattle.cad_declarations.specs.Meets.{only}
use Rattle.cad_declarations.specs.Views.{member_of, type_entry_of}
use Rattle.cad_conform.specs.Code.Only.{only_behind}
use Rattle.cad_conform.proofs.conform.only_default.Given as goal

abbrev pub invariant-loop-id : goal.invariant-loop-id
invariant-loop-id l =
    only_behind (option_map (λ m. member_of m.now) l.found) (filter_map (default_in (map type_entry_of l.all) l.name) (drop l.id-index l.ids))
    ≡ only (filter_map (default_in (map type_entry_of l.all) l.name) l.ids)
