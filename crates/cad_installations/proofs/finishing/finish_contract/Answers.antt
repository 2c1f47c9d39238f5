use Rattle.std.proofs.Common.{◌∙◌, ap, sym}
use Rattle.std.specs.Prelude.{map}
use Rattle.cad_evaluation.specs.Adding.{is_whole}
use Rattle.cad_installations.proofs.Whole.{not_whole}
use Rattle.cad_state.specs.Views.{contract_of, state_over}
use Rattle.cad_world.specs.Labels.{value_in}
use Rattle.cad_installations.proofs.finishing.finish_contract.Goals as goal

pub join_account-requires : goal.join_account-requires
join_account-requires c = ap (λ l. is_whole (value_in (map contract_of l) c.args.id.now)) (sym c.as_slice.ensures.value) ∙ sym c.is_whole.ensures ∙ c.if-is_whole.true

pub returns : goal.returns
returns c = λ w. not_whole c.args.id.now (state_over w c.args.state.now)
    (ap (λ l. is_whole (value_in (map contract_of l) c.args.id.now)) (sym c.as_slice.ensures.value) ∙ sym c.is_whole.ensures ∙ c.if-is_whole.false)
