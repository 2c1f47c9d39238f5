use Rattle.std.proofs.Common.{map}
use Rattle.cad_receivers.proofs.Passing.{after_ready}
use Rattle.cad_rows.specs.Views.{pure_row, pure_tree}
use Rattle.cad_services.specs.Code.Services.{held_member}
use Rattle.cad_syntax.specs.Types.{pure_type}
use Rattle.cad_services.proofs.services.known_member.Goals as goal

pub returns-in-Ok : goal.returns-in-Ok
returns-in-Ok c =
    after_ready pure_tree (held_member c.args.held (map (λ t. pure_type t) c.args.types.now) (pure_row c.args.arguments.items) c.args.address) c.args.state.now c.know.new.state c.held_member.new.state c.held_member.result
    (λ w ready. c.know.ensures.same w) c.held_member.ensures
