use Rattle.cad_statement_leaves.proofs.moves.next_element.Goals as goal

pub returns-in-Some : goal.returns-in-Some
returns-in-Some c =
    (c.in-Some.place, c.in-Some.ensures.cases.0, c.in-Some.ensures.cases.1, c.element_in.ensures)
