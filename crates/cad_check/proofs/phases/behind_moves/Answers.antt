use Rattle.std.proofs.Common.{subst}
use Rattle.cad_pieces.specs.Answers.{StopAnswer}
use Rattle.cad_check.specs.Answers.{piece_refused}
use Rattle.cad_check.specs.declared.refusals.BodyPhase.TheVariants as by
use Rattle.cad_declarations.specs.Views.{tables_of}
use Rattle.cad_pieces.specs.Views.{pieces_of}
use Rattle.cad_check.proofs.Ordered.{in_purity}
use Rattle.cad_check.proofs.phases.behind_moves.Goals as goal

pub returns-in-Some : goal.returns-in-Some
returns-in-Some c = λ typed conform moved program is. in_purity (tables_of c.args.tables.now) program (pieces_of c.args.pieces.now) is c.in-Some.stop typed conform moved (subst (StopAnswer (piece_refused (tables_of c.args.tables.now) by.Purity) (pieces_of c.args.pieces.now)) c.in-Some.is c.in_ok-stop.ensures)

pub returns-in-None : goal.returns-in-None
returns-in-None c = λ typed conform moved. c.behind_purity.ensures typed conform moved (subst (StopAnswer (piece_refused (tables_of c.args.tables.now) by.Purity) (pieces_of c.args.pieces.now)) c.in-None.is c.in_ok-stop.ensures)
