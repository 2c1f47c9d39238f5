use Rattle.cad_rows.specs.Views.{pure_row, pure_tree}
use Rattle.cad_rows.specs.declared.tree.Place.{Place}
use Rattle.cad_services.specs.Code.Services.{capabilities_member, held_member}
use Rattle.cad_services.specs.declared.groups.Held.{Held}
use Rattle.cad_state.specs.Views.{FindsAndCarriesOut}
use Rattle.cad_syntax.specs.Types.{pure_type}
use Rattle.std.proofs.Common.{List, map, subst, sym}
use Rattle.cad_services.proofs.services.held_member.Goals as goal

pub returns-in-Storage : goal.returns-in-Storage
returns-in-Storage c = subst (λ (h : Held). FindsAndCarriesOut pure_tree (held_member h (map (λ t. pure_type t) c.args.types.now) (pure_row c.args.arguments.items) c.args.address) c.args.state.now c.storage_member.new.state c.storage_member.result) (sym c.in-Storage.is) c.storage_member.ensures

pub returns-in-Capabilities : goal.returns-in-Capabilities
returns-in-Capabilities c = subst (λ (h : Held). FindsAndCarriesOut pure_tree (held_member h (map (λ t. pure_type t) c.args.types.now) (pure_row c.args.arguments.items) c.args.address) c.args.state.now c.capabilities_member-given.new.state c.capabilities_member-given.result) (sym c.in-Capabilities.is)
    (subst (λ (r : List Place). FindsAndCarriesOut pure_tree (capabilities_member c.in-Capabilities.member (map (λ t. pure_type t) c.args.types.now) (pure_row r) c.args.address) c.args.state.now c.capabilities_member-given.new.state c.capabilities_member-given.result) c.as_slice.ensures.value c.capabilities_member-given.ensures)
