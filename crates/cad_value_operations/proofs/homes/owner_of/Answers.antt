use Rattle.std.proofs.Common.{Option, ap, option_map, sym, ◌∙◌}
use Rattle.cad_evaluation.specs.Accounts.{any_account}
use Rattle.cad_evaluation.specs.Texts.{optional_tree}
use Rattle.cad_state.specs.Views.{state_over}
use Rattle.cad_syntax.specs.declared.address.Address.{Address}
use Rattle.cad_world.specs.Rows.{Tree}
use Rattle.cad_world.specs.State.{ok}
use Rattle.cad_value_operations.proofs.homes.owner_of.Goals as goal

pub returns-in-Ok : goal.returns-in-Ok
returns-in-Ok c = λ w ready.
    ap (λ (o : Option Address). ok (optional_tree (option_map any_account o)) (state_over w c.args.state.now)) (sym (c.in-Ok.ensures w ready))
    ∙ ap (λ (t : Tree). ok t (state_over w c.args.state.now)) (sym c.optional_account.ensures)
