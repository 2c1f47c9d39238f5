use Rattle.cad_selections.proofs.arrivals.arrival_of_seen.Goals as goal

pub returns-in-Some : goal.returns-in-Some
returns-in-Some c = λ rights x s. rw c.in-Some.is (c.arrival_of_value.ensures rights x s)
