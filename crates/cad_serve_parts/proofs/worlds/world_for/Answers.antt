use Rattle.std.proofs.Common.{◌∙◌}
use Rattle.cad_serve_parts.proofs.worlds.world_for.Goals as goal

pub returns : goal.returns
returns c = λ w stands. c.of_part.ensures w.accounts ∙ (c.in_ok-part.ensures w stands).is
