use Rattle.cad_answers.proofs.ready.with_line.Goals as goal

pub returns-in_ok-text-in-Reply-clause-ready : goal.returns-in_ok-text-in-Reply-clause-ready
returns-in_ok-text-in-Reply-clause-ready c = λ w line is.
    let h = rw c.in-Reply.is at is in
    (h.0, h.1, h.2, c.in_ok-text-in-Reply.ensures h.0 h.3, h.4)

pub returns-in-Ok-clause-ready : goal.returns-in-Ok-clause-ready
returns-in-Ok-clause-ready c = λ w line is.
    let h = rw c.in-Commit.is at is in
    (h.0, h.1, h.2, h.3, c.in-Ok.ensures h.0 h.4, h.5, h.6, h.7, h.8)
