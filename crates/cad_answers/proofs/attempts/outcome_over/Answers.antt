use Rattle.std.proofs.Common.{ap, refl, subst}
use Rattle.cad_commands.specs.Bounds.{IsBounded}
use Rattle.cad_commands.specs.Views.{pure_command}
use Rattle.cad_commands.specs.declared.kinds.Command.{Command}
use Rattle.cad_store.specs.Stores.{held}
use Rattle.cad_answers.specs.Code.Programs.{code_of}
use Rattle.cad_answers.proofs.Comings.{comes_command, comes_script, comes_transaction}
use Rattle.cad_serve_parts.proofs.Results.{if_ok}
use Rattle.cad_answers.proofs.attempts.outcome_over.Goals as goal

pub transaction_outcome-requires-clause-units : goal.transaction_outcome-requires-clause-units
transaction_outcome-requires-clause-units c = (subst IsBounded (ap pure_command c.in-Transaction.is) c.requires.bounds c.in-Transaction.limit refl).1

pub script_outcome-requires-clause-units : goal.script_outcome-requires-clause-units
script_outcome-requires-clause-units c = (subst IsBounded (ap pure_command c.in-Script.is) c.requires.bounds c.in-Script.limit refl).1

pub returns-in-Transaction : goal.returns-in-Transaction
returns-in-Transaction c =
    let base = held c.args.store.now in
    let code = c.in-Transaction.code in
    comes_command c.transaction_outcome.result base c.args.command.now _ c.in-Transaction.is
    (comes_transaction c.transaction_outcome.result base code code c.in-Transaction.arguments.items c.deref.result.now c.in-Transaction.signers.items c.deref-in-Transaction.result.now c.in-Transaction.limit refl
    c.deref.ensures.value c.deref-in-Transaction.ensures.value
    (if_ok c.transaction_outcome.result (λ o h. h code (c.requires.program code (ap (λ (x : Command). code_of (pure_command x)) c.in-Transaction.is))) c.transaction_outcome.ensures))

pub returns-in-Script : goal.returns-in-Script
returns-in-Script c =
    let base = held c.args.store.now in
    let code = c.in-Script.code in
    comes_command c.script_outcome.result base c.args.command.now _ c.in-Script.is
    (comes_script c.script_outcome.result base code code c.in-Script.arguments.items c.deref-in-Script.result.now c.in-Script.limit refl c.deref-in-Script.ensures.value
    (if_ok c.script_outcome.result (λ o h. h base code c.requires.told (c.requires.program code (ap (λ (x : Command). code_of (pure_command x)) c.in-Script.is))) c.script_outcome.ensures))
