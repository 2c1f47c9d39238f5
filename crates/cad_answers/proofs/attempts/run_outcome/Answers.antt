use Rattle.std.proofs.Common.{refl}
use Rattle.cad_commands.specs.Views.{pure_command}
use Rattle.cad_runs.specs.Commands.{rejected}
use Rattle.cad_answers.proofs.Judgements.{accepted_so, refused_so}
use Rattle.cad_answers.proofs.attempts.run_outcome.Goals as goal

pub accepted-requires-clause-program : goal.accepted-requires-clause-program
accepted-requires-clause-program c = λ code is w stands.
    accepted_so w (pure_command c.args.command.now) c.args.code.now code c.in-Ok-Ok.checked c.requires.code is (rw c.in-Ok-Ok.field-0-is at (c.in-Ok-Ok.ensures w (c.in_ok-world.ensures w stands)))

pub returns-in-Ok-Err : goal.returns-in-Ok-Err
returns-in-Ok-Err c = λ w stands. (
  rejected c.in-Ok-Err.rejected,
  refl,
  refused_so w (pure_command c.args.command.now) c.args.code.now c.in-Ok-Err.rejected c.requires.code (rw c.in-Ok-Err.field-0-is at (c.in-Ok-Err.ensures w (c.in_ok-world.ensures w stands))),
)
