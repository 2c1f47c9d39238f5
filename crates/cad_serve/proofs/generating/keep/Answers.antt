use Rattle.std.proofs.Common.{sym, subst}
use Rattle.cad_worlds.specs.Standing.{StandsFor}
use Rattle.cad_serve.proofs.generating.keep.Goals as goal

pub commit-requires-clause-out : goal.commit-requires-clause-out
commit-requires-clause-out g c =
    let h = rw c.in-Commit.is at c.requires.settled.2 in
    (h.2, h.5)

pub returns-in-Reply-clause-reply : goal.returns-in-Reply-clause-reply
returns-in-Reply-clause-reply g c = λ w line is.
    let h = rw c.in-Reply.is at is in
    (h.0, h.1, h.2, h.3, h.4)

pub returns-in-Ok-clause-reply : goal.returns-in-Ok-clause-reply
returns-in-Ok-clause-reply g c = λ w line is.
    let h = rw c.in-Commit.is at is in
    (h.0, h.1, h.3, h.4, subst (λ m. StandsFor m h.1) (λ i key. sym (c.in-Ok.ensures.ok h.2 h.5 key) i) h.6)
