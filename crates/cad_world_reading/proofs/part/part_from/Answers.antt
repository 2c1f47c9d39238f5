use Rattle.cad_world_reading.proofs.PartKnown.{part_is}
use Rattle.cad_world_reading.proofs.part.part_from.Goals as goal

pub returns-in-Ok : goal.returns-in-Ok
returns-in-Ok c wanted w follows sound = part_is wanted w c.args.draft c.in-Ok.contracts follows (c.in-Ok.ensures w follows.sources_are follows.values_are sound)
