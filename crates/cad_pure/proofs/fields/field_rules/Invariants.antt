use Rattle.std.proofs.Common.{◌≡◌, ◌++◌, map, drop}
use Rattle.cad_declarations.specs.Views.{tables_of, member_of}
use Rattle.cad_paths.specs.Fields as spec
use Rattle.cad_pure.proofs.fields.field_rules.Given as goal

abbrev pub invariant-loop-member : goal.invariant-loop-member
invariant-loop-member l =
    l.all.items ++ spec.field_rules (spec.declarations_in (tables_of l.tables)) (map member_of (drop l.member-index l.members))
    ≡ spec.field_rules (spec.declarations_in (tables_of l.tables)) (map member_of l.members)
