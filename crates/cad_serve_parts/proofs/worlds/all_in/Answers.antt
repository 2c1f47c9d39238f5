use Rattle.std.proofs.Common.{◌∙◌}
use Rattle.cad_store.specs.Stores.{held}
use Rattle.cad_worlds.specs.Standing.{world_of}
use Rattle.cad_serve_parts.proofs.worlds.all_in.Goals as goal

pub returns : goal.returns
returns c = λ w stands. c.of_world.ensures w.accounts ∙ c.one_world.ensures (held c.args.store.now) (world_of c.in_ok-world.world) w c.in_ok-world.ensures stands
