use Rattle.std.proofs.Common.{sym, ◌∙◌}
use Rattle.cad_state.specs.Views.{state_over}
use Rattle.cad_run_accounts.proofs.Homes.{home_by_storage, home_by_contracts}
use Rattle.cad_run_accounts.proofs.home_search.home.Goals as goal

pub returns-in-Ok-Some : goal.returns-in-Ok-Some
returns-in-Ok-Some c = λ w ready. home_by_storage c.args.label (state_over w c.args.state.now) c.in-Ok-Some.address (sym c.in-Ok-Some.field-0-is ∙ c.in-Ok-Some.ensures w ready)

pub returns-in-Ok-None : goal.returns-in-Ok-None
returns-in-Ok-None c = home_by_contracts c.home_in_contracts.result c.args.label c.args.state.now c.as_slice.result.now c.as_slice.ensures.value
    (λ w ready. sym c.in-Ok-None.field-0-is ∙ c.in-Ok-None.ensures w ready) c.home_in_contracts.ensures
