use Rattle.cad_evaluation.specs.Builtins.{member}
use Rattle.cad_receivers.specs.Views.{settled_of}
use Rattle.cad_rows.specs.Views.{pure_row, pure_tree}
use Rattle.cad_rows.specs.declared.tree.Place.{Place}
use Rattle.cad_state.specs.Views.{FindsAndCarriesOut}
use Rattle.cad_syntax.specs.Types.{pure_type}
use Rattle.cad_value_operations.proofs.GroupLaws.{member_by_group, read_group}
use Rattle.cad_value_operations.proofs.Looks.{looked_alike}
use Rattle.cad_value_operations.specs.Code.Members.{by_group, read_by}
use Rattle.cad_value_operations.specs.declared.groups.Group.{Group}
use Rattle.cad_value_operations.specs.declared.groups.Group.TheVariants.{Container, Search, Service}
use Rattle.cad_world.specs.Receivers.{look_at}
use Rattle.cad_world.specs.State.{◌>>=◌}
use Rattle.std.proofs.Common.{List, ap, map, subst, sym, ◌∙◌}
use Rattle.cad_members.proofs.members.member_settled.Goals as goal

pub returns-in-Service : goal.returns-in-Service
returns-in-Service c = λ front calls.
    let b = c.args.builtin in
    let types = (map (λ t. pure_type t) c.args.types.now) in
    let row = pure_row c.args.arguments.items in
    looked_alike pure_tree (look_at (settled_of c.args.receiver)) (λ spot. member front calls b types spot row) (λ spot. by_group front calls b types spot row Service) c.args.state.now c.service.new.state c.service.result
    (λ spot s. member_by_group front calls b types spot row s ∙ ap (λ (k : Group). by_group front calls b types spot row k s) (sym c.in-Service.ensures)) (c.service.ensures front calls)

pub returns-in-Search : goal.returns-in-Search
returns-in-Search c = λ front calls.
    let b = c.args.builtin in
    let types = (map (λ t. pure_type t) c.args.types.now) in
    let row = pure_row c.args.arguments.items in
    looked_alike pure_tree (look_at (settled_of c.args.receiver)) (λ spot. member front calls b types spot row) (λ spot. by_group front calls b types spot row Search) c.args.state.now c.of_search.new.state c.of_search.result
    (λ spot s. member_by_group front calls b types spot row s ∙ ap (λ (k : Group). by_group front calls b types spot row k s) (sym c.in-Search.ensures)) c.of_search.ensures

pub returns-in-Container : goal.returns-in-Container
returns-in-Container c = λ front calls.
    let b = c.args.builtin in
    let types = (map (λ t. pure_type t) c.args.types.now) in
    let row = pure_row c.args.arguments.items in
    looked_alike pure_tree (look_at (settled_of c.args.receiver)) (λ spot. member front calls b types spot row) (λ spot. by_group front calls b types spot row Container) c.args.state.now c.of_container.new.state c.of_container.result
    (λ spot s. member_by_group front calls b types spot row s ∙ ap (λ (k : Group). by_group front calls b types spot row k s) (sym c.in-Container.ensures)) c.of_container.ensures

pub returns-in_default : goal.returns-in_default
returns-in_default c = λ front calls.
    let b = c.args.builtin in
    let types = (map (λ t. pure_type t) c.args.types.now) in
    let row = pure_row c.args.arguments.items in
    let x = c.args.state.now in
    let z = c.member_read-given.new.state in
    let group = c.group_of.result in
    looked_alike pure_tree (look_at (settled_of c.args.receiver)) (λ spot. member front calls b types spot row) (λ spot. read_by spot row group) x z c.member_read-given.result
    (λ spot s. member_by_group front calls b types spot row s ∙ ap (λ (k : Group). by_group front calls b types spot row k s) (sym c.group_of.ensures)
    ∙ read_group front calls b types spot row group s c.in_default.not-Service c.in_default.not-Search c.in_default.not-Container)
    (subst (λ (r : List Place). FindsAndCarriesOut pure_tree ((look_at (settled_of c.args.receiver)) >>= (λ spot. read_by spot (pure_row r) group)) x z c.member_read-given.result) c.as_slice.ensures.value c.member_read-given.ensures)
