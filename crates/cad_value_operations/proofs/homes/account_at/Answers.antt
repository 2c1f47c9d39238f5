use Rattle.cad_evaluation.specs.Accounts.{account_reference}
use Rattle.cad_syntax.specs.Types.{PureType}
use Rattle.cad_world.specs.Rows.{Tree}
use Rattle.cad_world.specs.State.{ok}
use Rattle.std.proofs.Common.{ap, sym, ◌∙◌}
use Rattle.cad_value_operations.proofs.homes.account_at.Goals as goal

pub returns-in-Ok : goal.returns-in-Ok
returns-in-Ok c = λ s.
    ap (λ (t : PureType). ok (account_reference t c.args.address) s) (sym c.in-Ok.ensures) ∙ ap (λ (t : Tree). ok t s) (sym c.account_reference.ensures)
