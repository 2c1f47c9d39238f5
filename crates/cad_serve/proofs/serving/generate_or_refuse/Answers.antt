use Rattle.std.proofs.Common.{subst}
use Rattle.cad_serve.specs.Generated.{IsCountsLine}
use Rattle.cad_serve_parts.proofs.Numerals.{one_asked}
use Rattle.cad_serve.proofs.serving.generate_or_refuse.Goals as goal

pub returns-in-Some-clause-done : goal.returns-in-Some-clause-done
returns-in-Some-clause-done g c = λ tell is n asked.
    let k = c.generate.ensures.done tell is in
    (k.0, subst (λ m. IsCountsLine m k.0) (one_asked c.args.words.now _ n c.in-Some.ensures.some asked) k.1, k.2)

pub returns-in-Some-clause-write_fault : goal.returns-in-Some-clause-write_fault
returns-in-Some-clause-write_fault g c = λ tell is n asked.
    let k = c.generate.ensures.write_fault tell is in
    (k.0, subst (λ m. IsCountsLine m k.0) (one_asked c.args.words.now _ n c.in-Some.ensures.some asked) k.1, k.2)
