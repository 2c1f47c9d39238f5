use Rattle.cad_tape.proofs.Opened.{placed_of, free_of_empty, free_of_placed}
use Rattle.cad_tape.proofs.laws.opens.Goals as goal

pub returns-clause-placed : goal.returns-clause-placed
returns-clause-placed c = placed_of

pub returns-clause-free : goal.returns-clause-free
returns-clause-free c = free_of_empty

pub returns-clause-switches : goal.returns-clause-switches
returns-clause-switches c = free_of_placed
