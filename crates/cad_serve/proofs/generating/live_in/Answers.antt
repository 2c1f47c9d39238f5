use Rattle.std.proofs.Common.{◌∙◌, ap, length}
use Rattle.cad_store.specs.Stores.{held}
use Rattle.cad_world.specs.Live.{live}
use Rattle.cad_worlds.specs.Standing.{world_of}
use Rattle.cad_serve.proofs.generating.live_in.Goals as goal

pub returns-in-Ok : goal.returns-in-Ok
returns-in-Ok c = λ w is_w.
    c.len.ensures ∙ ap length c.in-Ok.ensures ∙ ap (λ x. length (live x)) (c.one_world.ensures (held c.args.store.now) (world_of c.in_ok-world.world) w c.in_ok-world.ensures is_w)
