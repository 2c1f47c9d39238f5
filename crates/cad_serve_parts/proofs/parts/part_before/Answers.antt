use Rattle.cad_serve_parts.proofs.Results.{if_ok}
use Rattle.cad_serve_parts.proofs.parts.part_before.Goals as goal

pub returns : goal.returns
returns c = if_ok c.part_in.result (λ part known w stands. (known w stands).is) c.part_in.ensures
