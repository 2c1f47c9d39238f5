use Rattle.std.proofs.Common.{◌∙◌, sym}
use Rattle.std.proofs.lemmas.Bool.{false≢true}
use Rattle.cad_worlds.specs.RowLists.{rows_listed}
use Rattle.cad_worlds.specs.Standing.{world_of}
use Rattle.cad_world_registers.proofs.ReadBack.{not_sound}
use Rattle.cad_world_registers.proofs.comparing.stand_for.Goals as goal

pub returns-then-not-branch : goal.returns-then-not-branch
returns-then-not-branch c = not_sound (rows_listed c.args.list) (world_of c.args.world.now) (λ s. false≢true (sym c.if-not-branch.true ∙ c.in_ok-is_sound_world.ensures.1 s))

pub are_registers-requires-clause-sound : goal.are_registers-requires-clause-sound
are_registers-requires-clause-sound c = c.in_ok-is_sound_world.ensures.0 c.if-not-branch.false
