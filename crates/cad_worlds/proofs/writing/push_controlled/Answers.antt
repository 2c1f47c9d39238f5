use Rattle.std.proofs.Common.{map, ap, ◌∙◌}
use Rattle.cad_state.specs.Views.{account_of}
use Rattle.cad_world.specs.Registers.{controller_registers}
use Rattle.cad_worlds.proofs.Sections.{grown, all_controlled}
use Rattle.cad_worlds.specs.Sections.{controlled_of}
use Rattle.cad_worlds.specs.Standing.{coding, register_of}
use Rattle.cad_worlds.proofs.writing.push_controlled.Goals as goal

pub returns : goal.returns
returns c =
    let controllers = c.as_slice-controllers in
    grown c.push_controllers.result (map register_of c.push_controllers.new.rows.items) (map register_of c.args.rows.now.items) (map (controlled_of c.args.address) controllers.result.now) (controller_registers coding c.args.address (account_of c.args.account.now))
    (ap (map (controlled_of c.args.address)) controllers.ensures.value ∙ all_controlled c.args.address c.args.account.now.controllers.items) c.push_controllers.ensures
