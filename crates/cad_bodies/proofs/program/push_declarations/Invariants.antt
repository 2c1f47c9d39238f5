use Rattle.std.proofs.Common.{◌≡◌, ◌++◌, map, drop}
use Rattle.std.specs.List.{flat_map}
use Rattle.cad_grammar.specs.Views.{decl_of}
use Rattle.cad_declarations.specs.Views.{tables_of}
use Rattle.cad_typing.specs.Pieces as spec
use Rattle.cad_pieces.specs.Views.{pieces_of}
use Rattle.cad_bodies.proofs.program.push_declarations.Given as goal

abbrev pub invariant-loop-one : goal.invariant-loop-one
invariant-loop-one l =
    pieces_of l.all.items ++ flat_map (spec.declaration_pieces (tables_of l.known.tables.now)) (map decl_of (drop l.one-index l.declared))
    ≡ pieces_of l.initial.all.items ++ flat_map (spec.declaration_pieces (tables_of l.known.tables.now)) (map decl_of l.declared)
