use Rattle.std.proofs.Common.{subst}
use Rattle.cad_pieces.specs.Answers.{StopAnswer}
use Rattle.cad_typing.specs.Programs.{IllTyped}
use Rattle.cad_declarations.specs.Views.{tables_of}
use Rattle.cad_pieces.specs.Views.{pieces_of}
use Rattle.cad_check.proofs.Ordered.{in_types}
use Rattle.cad_check.proofs.phases.first_refusal.Goals as goal

pub returns-in-Some : goal.returns-in-Some
returns-in-Some c = λ program is. in_types (tables_of c.args.tables.now) program (pieces_of c.args.pieces.now) is c.in-Some.stop (subst (StopAnswer IllTyped (pieces_of c.args.pieces.now)) c.in-Some.is c.in_ok-stop.ensures)

pub returns-in-None : goal.returns-in-None
returns-in-None c = c.behind_types.ensures (subst (StopAnswer IllTyped (pieces_of c.args.pieces.now)) c.in-None.is c.in_ok-stop.ensures)
