use Rattle.std.proofs.Common.{◌≡◌, ◌+◌, ℕ, length, refl, subst, arith}
use Rattle.cad_runs.specs.Commands.{account, account_made, failed}
use Rattle.cad_store.specs.Stores.{held}
use Rattle.cad_run_outcomes.specs.Outcomes.{leads}
use Rattle.cad_world.specs.State.{World}
use Rattle.cad_answers.specs.Answer.{spent, made, one_more, Does}
use Rattle.cad_serve_parts.specs.Code.Worlds.{LeadsOn}
use Rattle.cad_answers.proofs.OneMoreAccount.{counted, one_more_is}
use Rattle.cad_answers.proofs.making.account_outcome.Goals as goal

pub returns-then-count-ge-MOST_ACCOUNTS : goal.returns-then-count-ge-MOST_ACCOUNTS
returns-then-count-ge-MOST_ACCOUNTS c = λ w stands.
    let known = c.in_ok-part.ensures w stands in
    let many = counted w c.in_ok-part.part known.is in
    (failed 127, refl, spent (omega (arith, many)))

pub returns : goal.returns
returns c = λ w stands.
    let known = c.in_ok-part.ensures w stands in
    let many : length w.accounts ≡ c.in_ok-part.part.count = counted w c.in_ok-part.part known.is in
    let new = c.in_ok-new.new in
    let leads_on = subst (λ (v : World). LeadsOn (held c.args.store.now) v c.in_ok-changes.changes) (one_more_is w c.in_ok-part.part new known c.in_ok-new.ensures) (c.in_ok-changes.ensures w stands) in (
      account_made (c.in_ok-part.part.count + 1),
      refl,
      one_more w,
      leads_on.0,
      subst (λ (n : ℕ). Does w account (leads (account_made n) (one_more w))) (omega (arith, many)) (made (omega (arith, many))),
      leads_on.1,
      leads_on.2,
      leads_on.3,
      leads_on.4,
    )
