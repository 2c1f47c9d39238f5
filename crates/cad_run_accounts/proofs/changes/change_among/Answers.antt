use Rattle.std.proofs.Common.{◌≡◌, IfOk, Option, option_map, ap, ◌∙◌, arith, subst}
use Rattle.cad_rows.specs.Views.{pure_tree}
use Rattle.cad_run_accounts.specs.Code.Changing.{changed_by, left_by}
use Rattle.cad_run_accounts.proofs.Found.{account_there, account_nowhere, changed_nowhere, nothing_left}
use Rattle.cad_world.specs.State as s
use Rattle.cad_run_accounts.proofs.changes.change_among.Goals as goal

pub returns-in-Some-clause-left : goal.returns-in-Some-clause-left
returns-in-Some-clause-left c =
    let all = c.args.all.now.items in
    let old = c.index_mut.result.now in
    subst (λ (a : Option s.Account). IfOk c.change_account.result (λ o. option_map pure_tree o ≡ left_by c.args.change a))
    (account_there all c.args.address.0 c.in-Some.i old c.in-Some.ensures.0 (omega (arith, c.in-Some.ensures.1, c.len.ensures)) c.index_mut.ensures.value) c.change_account.ensures.left

pub returns-in-None-clause-all : goal.returns-in-None-clause-all
returns-in-None-clause-all c = changed_nowhere (changed_by c.args.change) c.args.all.now.items c.args.address.0 (λ i e. omega (arith, c.in-None.ensures i e, c.len.ensures))

pub returns-in-None-clause-left : goal.returns-in-None-clause-left
returns-in-None-clause-left c = nothing_left c.args.change ∙ ap (left_by c.args.change) (account_nowhere c.args.all.now.items c.args.address.0 (λ i e. omega (arith, c.in-None.ensures i e, c.len.ensures)))
