use Rattle.std.proofs.Common.{refl}
use Rattle.cad_world.specs.Registers.{map_of}
use Rattle.cad_worlds.specs.Standing.{coding}
use Rattle.cad_answers.proofs.laws.sound_world_becomes_itself.Goals as goal

pub returns : goal.returns
returns c = λ v u sound bytes h. c.one_world.ensures (map_of coding v) u v h (record { are = λ key. refl; sound = sound; has_bytes = bytes })
