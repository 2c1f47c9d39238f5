use Rattle.cad_tape.proofs.Opened.{again, found}
use Rattle.cad_tape.proofs.laws.records_both_ways.Goals as goal

pub returns-clause-again : goal.returns-clause-again
returns-clause-again c = again

pub returns-clause-found : goal.returns-clause-found
returns-clause-found c = found
