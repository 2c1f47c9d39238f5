use Rattle.std.proofs.Common.{◌≡◌, ◌++◌, map, drop}
use Rattle.cad_types.specs.Declarations.{declaration_of as kind_of}
use Rattle.cad_declarations.specs.Kinds.{declaration_of}
use Rattle.cad_declarations.specs.Views.{type_entry_of}
use Rattle.cad_declarations.proofs.lookup.all_declared.Given as goal

abbrev pub invariant-loop-t : goal.invariant-loop-t
invariant-loop-t l =
    map kind_of l.all.items ++ map declaration_of (map type_entry_of (drop l.t-index l.types)) ≡ map declaration_of (map type_entry_of l.types)
