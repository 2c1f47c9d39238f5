use Rattle.std.proofs.Common.{ap, refl, sym, subst, ◌∙◌}
use Rattle.std.specs.Prelude.{Some}
use Rattle.cad_commands.specs.Bounds.{IsBounded}
use Rattle.cad_commands.specs.Views.{pure_command}
use Rattle.cad_commands.specs.declared.kinds.Command.{Command}
use Rattle.cad_runs.specs.Commands.{bad}
use Rattle.cad_store.specs.Stores.{held}
use Rattle.cad_run_outcomes.specs.Outcomes.{stays}
use Rattle.cad_answers.specs.Answer.{unread}
use Rattle.cad_answers.specs.Code.Programs.{code_of}
use Rattle.cad_answers.proofs.Comings.{comes_command, comes_deploy, does_command}
use Rattle.cad_answers.proofs.commands.outcome_of.Goals as goal

pub returns-in-Account : goal.returns-in-Account
returns-in-Account c = comes_command c.account_over.result (held c.args.store.now) c.args.command.now _ c.in-Account.is c.account_over.ensures

pub deploy_with-requires-clause-units : goal.deploy_with-requires-clause-units
deploy_with-requires-clause-units c =
    (subst IsBounded (sym c.requires.bounds.1 ∙ ap pure_command c.in-Deploy.is) (c.limits_are_bounded.ensures c.requires.bounds.0) c.in-Deploy.limit refl).1

pub returns-in-Deploy : goal.returns-in-Deploy
returns-in-Deploy c =
    comes_command c.deploy_with.result (held c.args.store.now) c.args.command.now _ c.in-Deploy.is
    (comes_deploy c.deploy_with.result (held c.args.store.now) c.in-Deploy.address c.in-Deploy.name c.as_str-name.result.now c.in-Deploy.code c.as_str-code.result.now c.in-Deploy.arguments.items c.deref.result.now
    c.in-Deploy.limit c.as_str-name.ensures c.as_str-code.ensures c.deref.ensures.value c.deploy_with.ensures)

pub run_outcome-requires-clause-bounds : goal.run_outcome-requires-clause-bounds
run_outcome-requires-clause-bounds c = subst IsBounded (sym c.requires.bounds.1) (c.limits_are_bounded.ensures c.requires.bounds.0)

pub run_outcome-requires-clause-code : goal.run_outcome-requires-clause-code
run_outcome-requires-clause-code c = ap (λ (x : Command). code_of (pure_command x)) c.in-Transaction.is ∙ ap Some (sym c.as_str-code-in-Transaction.ensures)

pub run_outcome-requires-in-Script-clause-bounds : goal.run_outcome-requires-in-Script-clause-bounds
run_outcome-requires-in-Script-clause-bounds c = subst IsBounded (sym c.requires.bounds.1) (c.limits_are_bounded.ensures c.requires.bounds.0)

pub run_outcome-requires-in-Script-clause-code : goal.run_outcome-requires-in-Script-clause-code
run_outcome-requires-in-Script-clause-code c = ap (λ (x : Command). code_of (pure_command x)) c.in-Script.is ∙ ap Some (sym c.as_str-code-in-Script.ensures)

pub returns-in-Refused : goal.returns-in-Refused
returns-in-Refused c = λ w stands. (bad c.in-Refused.number, refl, does_command w c.args.command.now _ (stays (bad c.in-Refused.number)) c.in-Refused.is unread)
