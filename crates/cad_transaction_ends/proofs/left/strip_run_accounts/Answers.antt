use Rattle.std.proofs.Common.{◌∙◌, ap, map, sym}
use Rattle.cad_state.specs.Views.{accounts_over}
use Rattle.cad_state.specs.declared.state.Accounts.{Accounts}
use Rattle.cad_world.specs.Begin.{kept_account}
use Rattle.cad_transaction_ends.proofs.left.strip_run_accounts.Goals as goal

pub returns-in-All : goal.returns-in-All
unfolding accounts_over
returns-in-All c = λ base kept. c.strip_accounts.ensures ∙ ap (λ (x : Accounts). map kept_account (accounts_over base x)) (sym c.in-All.is)

pub returns-in-Part : goal.returns-in-Part
unfolding accounts_over
returns-in-Part c = λ base kept. c.strip_known.ensures base c.in-Part.count kept ∙ ap (λ (x : Accounts). map kept_account (accounts_over base x)) (sym c.in-Part.is)
