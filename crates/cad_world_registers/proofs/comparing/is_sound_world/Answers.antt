use Rattle.std.proofs.Common.{◌∙◌, ap, map}
use Rattle.cad_state.specs.Views.{contract_of}
use Rattle.cad_world.specs.Shapes.{shapes}
use Rattle.cad_world_registers.proofs.comparing.is_sound_world.Goals as goal

pub is_sound-sound-requires : goal.is_sound-sound-requires
is_sound-sound-requires c = c.in_ok-shapes.ensures ∙ ap (λ l. shapes (map contract_of l)) c.as_slice.ensures.value
