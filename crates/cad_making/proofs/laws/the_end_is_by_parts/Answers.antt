use Rattle.cad_making.proofs.Destroying.{by_parts}
use Rattle.cad_making.proofs.laws.the_end_is_by_parts.Goals as goal

pub returns : goal.returns
returns c = by_parts
