use Rattle.std.proofs.Common.{ap}
use Rattle.cad_worlds.specs.Items.{Draft}
use Rattle.cad_world_reading.proofs.Loaded.{world_known}
use Rattle.cad_world_reading.proofs.reading.made_of.Goals as goal

pub returns-in-Ok : goal.returns-in-Ok
returns-in-Ok c v is sound =
    world_known c.args.parts c.in-Ok.contracts.items v is (c.in-Ok.ensures v (ap (λ (d : Draft). d.sources) is) (ap (λ (d : Draft). d.values) is) sound)
