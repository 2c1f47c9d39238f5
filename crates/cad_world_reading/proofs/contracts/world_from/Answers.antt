use Rattle.cad_world_reading.proofs.Joined.{world_joined}
use Rattle.cad_world_reading.proofs.contracts.world_from.Goals as goal

pub returns-in-Ok : goal.returns-in-Ok
returns-in-Ok c =
    world_joined c.args.parts.accounts.items c.in-Ok.contracts.items c.args.parts.sources.items c.args.programs.items c.args.parts.values.items c.args.parts.next_identity c.in-Ok.ensures
