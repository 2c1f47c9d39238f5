use Rattle.std.proofs.Common.{ap, subst, ◌∙◌, arith}
use Rattle.cad_wire.specs.Reading.{Gives, entries_of}
use Rattle.cad_wire.proofs.BodyLaws.{body_again, is_found}
use Rattle.cad_wire.proofs.body.read_entries.Goals as goal

pub returns-clause-found : goal.returns-clause-found
returns-clause-found c = is_found c.args.bytes.now c.read_body.result (λ i. omega (arith, c.type_inv.bytes i)) c.read_body.ensures

pub returns-clause-only : goal.returns-clause-only
returns-clause-only c = λ entries is e. subst (λ o. Gives c.read_body.result o) (ap entries_of e ∙ body_again entries is) c.read_body.ensures
