use Rattle.cad_evaluation.specs.Services.{service}
use Rattle.cad_receivers.specs.Views.{settled_of}
use Rattle.cad_rows.specs.Views.{pure_row, pure_tree}
use Rattle.cad_rows.specs.declared.tree.Place.{Place}
use Rattle.cad_services.proofs.GroupLaws.{service_by_group}
use Rattle.cad_services.proofs.Telling.{looked_alike}
use Rattle.cad_services.specs.Code.Services.{by_group}
use Rattle.cad_services.specs.declared.groups.Group.{Group}
use Rattle.cad_services.specs.declared.groups.Group.TheVariants.{Held}
use Rattle.cad_state.specs.Views.{FindsAndCarriesOut}
use Rattle.cad_syntax.specs.Types.{pure_type}
use Rattle.cad_world.specs.Receivers.{look_at}
use Rattle.cad_world.specs.State.{◌>>=◌}
use Rattle.std.proofs.Common.{List, ap, map, subst, sym, ◌∙◌}
use Rattle.cad_services.proofs.services.service.Goals as goal

pub returns-in-Held : goal.returns-in-Held
returns-in-Held c = λ front calls.
    let b = c.args.builtin in
    let types = (map (λ t. pure_type t) c.args.types.now) in
    let row = pure_row c.args.arguments.items in
    looked_alike pure_tree (look_at (settled_of c.args.receiver)) (λ spot. service front calls b types spot row) (λ spot. by_group front calls b types spot row (Held c.in-Held.held)) c.args.state.now c.of_account.new.state c.of_account.result
    (λ spot s. service_by_group front calls b types spot row s ∙ ap (λ (k : Group). by_group front calls b types spot row k s) (sym c.in-Held.ensures))
    c.of_account.ensures

pub returns-in_default : goal.returns-in_default
returns-in_default c = λ front calls.
    let b = c.args.builtin in
    let types = (map (λ t. pure_type t) c.args.types.now) in
    let row = pure_row c.args.arguments.items in
    looked_alike pure_tree (look_at (settled_of c.args.receiver)) (λ spot. service front calls b types spot row) (λ spot. by_group front calls b types spot row c.group_of.result) c.args.state.now c.of_other-given.new.state c.of_other-given.result
    (λ spot s. service_by_group front calls b types spot row s ∙ ap (λ (k : Group). by_group front calls b types spot row k s) (sym c.group_of.ensures))
    (subst (λ (r : List Place). FindsAndCarriesOut pure_tree ((look_at (settled_of c.args.receiver)) >>= (λ spot. by_group front calls b types spot (pure_row r) c.group_of.result)) c.args.state.now c.of_other-given.new.state c.of_other-given.result) c.as_slice.ensures.value (c.of_other-given.ensures front calls b types))
