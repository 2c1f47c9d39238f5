use Rattle.std.proofs.Common.{Bool, ap, sym, subst, ◌∙◌}
use Rattle.cad_capabilities.proofs.Acts.{told_back}
use Rattle.cad_capabilities.specs.Code.{checked, stored_as, stored_path}
use Rattle.cad_evaluation.specs.Storage.{is_stored_as}
use Rattle.cad_rows.specs.Views.{pure_row}
use Rattle.cad_state.proofs.Finding.{find_same}
use Rattle.cad_state.specs.Views.{state_over, FindsAndCarriesOut}
use Rattle.cad_syntax.specs.Types.{pure_type}
use Rattle.cad_world.specs.Labels.{stored_slot}
use Rattle.cad_world.specs.Rows.{Row, alone}
use Rattle.cad_capabilities.proofs.lending.is_stored_as.Goals as goal

pub returns-in-Ok : goal.returns-in-Ok
returns-in-Ok c =
    let type = pure_type c.args.wanted.now in
    let a = c.args.address in
    let name = c.args.name.now in
    find_same (λ (is : Bool). is) (stored_as type a name) (checked type (alone (stored_path name)) a) c.args.state.now c.is_checked-is.new.state c.is_checked-is.result
    (λ w ready. sym (told_back (is_stored_as type (stored_slot (state_over w c.args.state.now) a.0 name) (state_over w c.args.state.now))))
    (subst (λ (row : Row). FindsAndCarriesOut (λ (is : Bool). is) (checked type row a) c.args.state.now c.is_checked-is.new.state c.is_checked-is.result) (ap pure_row c.as_slice.ensures.value ∙ c.in-Ok.ensures) c.is_checked-is.ensures)
