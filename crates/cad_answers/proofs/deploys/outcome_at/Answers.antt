use Rattle.std.proofs.Common.{List, refl, sym, ap, ◌∙◌}
use Rattle.std.specs.Prelude.{map}
use Rattle.cad_replies.specs.Passed.{is_taken}
use Rattle.cad_runs.specs.Commands.{failed, rejected}
use Rattle.cad_state.specs.Views.{contract_of}
use Rattle.cad_state.specs.declared.state.Contract.{Contract}
use Rattle.cad_answers.specs.Answer.{name_taken, refused_deploy}
use Rattle.cad_serve_parts.proofs.Results.{if_ok}
use Rattle.cad_answers.proofs.deploys.outcome_at.Goals as goal

-- the contracts that were looked through are those of the World (`as_slice`)
pub returns-then-is_taken : goal.returns-then-is_taken
returns-then-is_taken c =
    let same = ap (λ (all : List Contract). is_taken (map contract_of all) c.args.id) c.as_slice.ensures.value in
    (failed 118, refl, name_taken (sym (c.is_taken.ensures ∙ same) ∙ c.if-is_taken.true))

pub served-requires-clause-free : goal.served-requires-clause-free
served-requires-clause-free c =
    let same = ap (λ (all : List Contract). is_taken (map contract_of all) c.args.id) c.as_slice.ensures.value in
    sym (c.is_taken.ensures ∙ same) ∙ c.if-is_taken.false

pub returns-in-Ok-Ok : goal.returns-in-Ok-Ok
returns-in-Ok-Ok c = if_ok c.served.result (λ o h. h (rw c.in-Ok-Ok.field-0-is at c.in-Ok-Ok.ensures)) c.served.ensures

pub returns-in-Ok-Err : goal.returns-in-Ok-Err
returns-in-Ok-Err c =
    let same = ap (λ (all : List Contract). is_taken (map contract_of all) c.args.id) c.as_slice.ensures.value in
    (rejected c.in-Ok-Err.rejected, refl, refused_deploy (sym (c.is_taken.ensures ∙ same) ∙ c.if-is_taken.false) (rw c.in-Ok-Err.field-0-is at c.in-Ok-Err.ensures))
