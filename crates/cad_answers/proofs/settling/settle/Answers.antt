use Rattle.cad_commands.specs.Views.{pure_command}
use Rattle.cad_store.specs.Stores.{held}
use Rattle.cad_answers.proofs.Readies.{settled_command}
use Rattle.cad_answers.proofs.settling.settle.Goals as goal

pub outcome_of-requires-clause-bounds : goal.outcome_of-requires-clause-bounds
outcome_of-requires-clause-bounds c = (c.args.line.now, c.in_ok-command.ensures)

pub answer_of-requires-clause-comes : goal.answer_of-requires-clause-comes
answer_of-requires-clause-comes c = (c.requires.sound.0, pure_command c.in_ok-command.command, c.in_ok-outcome.ensures c.requires.sound.0 c.requires.sound.1)

pub returns-clause-settled : goal.returns-clause-settled
returns-clause-settled c =
    settled_command c.answer_of.result (held c.args.store.now) c.answer_of.new.store c.args.line.now c.in_ok-outcome.outcome (pure_command c.in_ok-command.command)
    c.in_ok-command.ensures c.in_ok-outcome.ensures c.answer_of.ensures.settled
