use Rattle.std.proofs.Common.{◌≡◌, ◌++◌, map, arith}
use Rattle.cad_grammar.specs.Views.{decl_of}
use Rattle.cad_declarations.specs.Views.{tables_of}
use Rattle.cad_typing.specs.Pieces as spec
use Rattle.cad_pieces.specs.Views.{pieces_of}
use Rattle.cad_bodies.proofs.Each.{turn}
use Rattle.cad_bodies.proofs.program.push_declarations.Goals as goal

pub loop-one-preserved : goal.loop-one-preserved
loop-one-preserved c =
    turn decl_of (spec.declaration_pieces (tables_of c.args.known.tables.now)) c.args.declared.now c.loop-one.one-index c.one-item.result
    (pieces_of c.loop-one.all.items) (pieces_of c.push_declaration.new.all.items) _ (omega arith) c.one-item.is c.in_ok-push_declaration.ensures c.loop-one.invariant
