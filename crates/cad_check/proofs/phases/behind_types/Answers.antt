use Rattle.std.proofs.Common.{subst}
use Rattle.cad_check.specs.Answers.{Conformance}
use Rattle.cad_declarations.specs.Views.{tables_of}
use Rattle.cad_pieces.specs.Views.{pieces_of}
use Rattle.cad_check.proofs.Ordered.{in_conformance}
use Rattle.cad_check.proofs.phases.behind_types.Goals as goal

pub returns-in-Some : goal.returns-in-Some
returns-in-Some c = λ typed program is. in_conformance (tables_of c.args.tables.now) program (pieces_of c.args.pieces.now) is c.in-Some.stop typed (subst (Conformance (tables_of c.args.tables.now)) c.in-Some.is c.in_ok-stop.ensures)

pub returns-in-None : goal.returns-in-None
returns-in-None c = λ typed. c.behind_conformance.ensures typed (subst (Conformance (tables_of c.args.tables.now)) c.in-None.is c.in_ok-stop.ensures)
