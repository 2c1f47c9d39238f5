use Rattle.std.proofs.Common.{◌≡◌, ◌++◌, map, drop}
use Rattle.std.specs.Prelude.{filter_map}
use Rattle.cad_syntax.specs.Types.{pure_type}
use Rattle.cad_declarations.specs.Kinds.{field_type}
use Rattle.cad_declarations.specs.Views.{member_of}
use Rattle.cad_access.proofs.kinds.declared_of.Given as goal

abbrev pub invariant-loop-member : goal.invariant-loop-member
invariant-loop-member l =
    map pure_type l.fields.items ++ filter_map (λ m. field_type m.form) (map member_of (drop l.member-index l.member-items))
    ≡ filter_map (λ m. field_type m.form) (map member_of l.t.members.items)
