use Rattle.cad_evaluation.specs.Accounts.{account_in_value, on_account}
use Rattle.cad_evaluation.specs.Texts.{in_tree}
use Rattle.cad_receivers.specs.Views.{at_spot, settled_of}
use Rattle.cad_rows.specs.Views.{pure_row, pure_tree}
use Rattle.cad_rows.specs.declared.tree.Tree.{Tree}
use Rattle.cad_services.proofs.Telling.{with_none_told, with_told}
use Rattle.cad_services.specs.Code.Services.{held_member}
use Rattle.cad_state.specs.Views.{FindsAndCarriesOut}
use Rattle.cad_syntax.specs.Types.{pure_type}
use Rattle.cad_syntax.specs.declared.address.Address.{Address}
use Rattle.cad_syntax.specs.declared.types.Basic.{Basic}
use Rattle.cad_world.specs.Receivers.{look_at}
use Rattle.std.proofs.Common.{map, subst}
use Rattle.std.specs.Prelude.{Err}
use Rattle.cad_services.proofs.services.of_account.Goals as goal

pub returns-in-Ok : goal.returns-in-Ok
returns-in-Ok c =
    let f = held_member c.args.held (map (λ t. pure_type t) c.args.types.now) (pure_row c.args.arguments.items) in
    let r = settled_of c.args.receiver in
    subst (λ (p : Basic). FindsAndCarriesOut pure_tree (at_spot r (λ spot. on_account p spot f)) c.args.state.now c.known_member.new.state c.known_member.result) c.part_of.ensures
    (with_told (λ (a : Address). a) pure_tree (look_at r) (λ spot. in_tree (account_in_value c.part_of.result) spot.tree) f c.in-Ok.address c.args.state.now c.known_member.new.state c.known_member.result c.in-Ok.ensures c.known_member.ensures)

pub returns-in-Err : goal.returns-in-Err
returns-in-Err c =
    let f = held_member c.args.held (map (λ t. pure_type t) c.args.types.now) (pure_row c.args.arguments.items) in
    let r = settled_of c.args.receiver in
    subst (λ (p : Basic). FindsAndCarriesOut {B = Tree} pure_tree (at_spot r (λ spot. on_account p spot f)) c.args.state.now c.args.state.now (Err c.in-Err.stop)) c.part_of.ensures
    (with_none_told (λ (a : Address). a) pure_tree (look_at r) (λ spot. in_tree (account_in_value c.part_of.result) spot.tree) f c.args.state.now c.args.state.now c.in-Err.stop c.in-Err.ensures)
