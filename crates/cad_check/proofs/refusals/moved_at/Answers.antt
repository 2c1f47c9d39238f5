use Rattle.std.proofs.Common.{subst}
use Rattle.std.specs.Prelude.{Err}
use Rattle.cad_declarations.specs.Views.{part_of}
use Rattle.cad_paths.specs.Bodies.{resource_letters}
use Rattle.cad_moves.specs.Answers.{MovesAnswer}
use Rattle.cad_moves.specs.Views.{offence_of}
use Rattle.cad_moves.specs.declared.misuse.MoveStop.{MoveStop}
use Rattle.cad_check.proofs.Refused.{moved, nothing_moved}
use Rattle.cad_check.proofs.refusals.moved_at.Goals as goal

pub returns-in-Ok : goal.returns-in-Ok
returns-in-Ok c = nothing_moved (part_of c.args.body.now) c.in-Ok.ensures

pub returns-in-Err-At : goal.returns-in-Err-At
returns-in-Err-At c =
    let told = subst (λ (m : MoveStop). MovesAnswer (resource_letters (part_of c.args.body.now)) (Err m)) c.in-Err-At.field-0-is c.in-Err-At.ensures in
    moved (part_of c.args.body.now) (offence_of c.in-Err-At.misuse) told
