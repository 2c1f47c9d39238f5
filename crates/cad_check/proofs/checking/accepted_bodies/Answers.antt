use Rattle.cad_grammar.specs.Views.{program_of}
use Rattle.cad_declarations.specs.Views.{tables_of}
use Rattle.cad_pieces.specs.Views.{pieces_of}
use Rattle.cad_check.proofs.Verdicts.{well_typed}
use Rattle.cad_check.proofs.checking.accepted_bodies.Goals as goal

pub returns : goal.returns
returns c = λ is first.
    let none = first (program_of c.args.program.now) is in
    (none, c.in_ok-made.ensures is (well_typed (tables_of c.args.tables.now) (program_of c.args.program.now) (pieces_of c.args.pieces.items) is none))
