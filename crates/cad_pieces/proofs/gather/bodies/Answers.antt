use Rattle.std.specs.Prelude.{option_copied}
use Rattle.cad_grammar.specs.Views.{program_of}
use Rattle.cad_declarations.specs.Views.{tables_of, bodies_of}
use Rattle.cad_pieces.specs.Views.{pieces_of}
use Rattle.cad_pieces.proofs.Walk.{gathered_so}
use Rattle.cad_pieces.proofs.gather.bodies.Goals as goal

pub returns : goal.returns
returns c =
    gathered_so (tables_of c.args.tables.now) (program_of c.args.program.now) (pieces_of c.args.pieces.items) (option_copied c.as_ref.result) bodies_of
    c.gathered.result c.as_ref.ensures.value c.gathered.ensures
