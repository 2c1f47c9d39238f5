use Rattle.cad_table_laws.proofs.Offered.{members_met}
use Rattle.cad_table_laws.proofs.laws.members_are_met.Goals as goal

pub returns : goal.returns
returns c = members_met
