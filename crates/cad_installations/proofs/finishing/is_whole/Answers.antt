use Rattle.std.proofs.Common.{◌∙◌, ap, sym}
use Rattle.std.specs.Prelude.{map}
use Rattle.cad_evaluation.specs.Adding.{is_whole}
use Rattle.cad_installations.proofs.Whole.{none_whole, whole_found}
use Rattle.cad_rows.specs.Views.{pure_row}
use Rattle.cad_state.specs.Views.{contract_of}
use Rattle.cad_world.specs.Rows.{slot}
use Rattle.cad_installations.proofs.finishing.is_whole.Goals as goal

pub returns-in-Some : goal.returns-in-Some
returns-in-Some c =
    c.has_all.ensures ∙ ap is_whole (c.tree_at.ensures ∙ ap (λ l. slot 0 (pure_row l)) c.as_slice.ensures.value)
    ∙ sym (whole_found (map contract_of c.args.contracts.now) c.args.id.now (contract_of c.in-Some.contract.now) (sym c.in-Some.ensures))

pub returns-in-None : goal.returns-in-None
returns-in-None c = sym (none_whole (map contract_of c.args.contracts.now) c.args.id.now (sym c.in-None.ensures))
