-- The number itself where it is in range, else the end on its side.
use Rattle.std.proofs.Common.{◌≡◌, false, refl, sym, ap, ◌∙◌}
use Rattle.std.proofs.Math.Nat.{mod-eq_of_lt}
use Rattle.std.proofs.lemmas.Bool.{false_from_ne_true, false≢true}
use Rattle.cad_syntax.specs.Kinds.{in_range, signed}
use Rattle.cad_num.specs.Numbers.{nearest}
use Rattle.cad_num.proofs.Outcomes.{nearest-in, nearest-out, large_out, FalseIff-large, FalseIff-small}
use Rattle.cad_num.proofs.Signs.{signed-kept}
use Rattle.cad_num.proofs.fit.nearest.Goals as goal

pub returns-then-exact-clause-value : goal.returns-then-exact-clause-value
returns-then-exact-clause-value c z x =
    c.end.ensures.value ∙
    sym (nearest-out c.args.kind c.args.exact.negative x.magnitude (large_out _ _ _ (FalseIff-large c.args.exact.over x.magnitude x.over c.if-exact.true))) ∙
    ap (nearest c.args.kind) (sym x.integer)

pub returns-in-Some-clause-value : goal.returns-in-Some-clause-value
returns-in-Some-clause-value c z x =
    let same = x.low ∙ mod-eq_of_lt (FalseIff-small c.args.exact.over x.magnitude x.over c.if-exact.false) in
    let e = nearest-in c.args.kind c.args.exact.negative c.args.exact.low (c.in-Some.ensures.some.0 refl) in
    let n = c.in-Some.n in
    signed-kept n.negative c.args.exact.negative n.magnitude c.args.exact.low c.in-Some.ensures.negative c.in-Some.ensures.magnitude ∙
    sym e ∙ ap (λ m. nearest c.args.kind (signed c.args.exact.negative m)) same ∙ ap (nearest c.args.kind) (sym x.integer)

pub returns-in-None-clause-value : goal.returns-in-None-clause-value
returns-in-None-clause-value c z x =
    let same = x.low ∙ mod-eq_of_lt (FalseIff-small c.args.exact.over x.magnitude x.over c.if-exact.false) in
    let out : in_range c.args.kind c.args.exact.negative c.args.exact.low ≡ false =
    false_from_ne_true _ (λ r. false≢true (c.in-None.ensures.some.1 r)) in
    c.end-in-None.ensures.value ∙ sym (nearest-out c.args.kind c.args.exact.negative c.args.exact.low out) ∙
    ap (λ m. nearest c.args.kind (signed c.args.exact.negative m)) same ∙ ap (nearest c.args.kind) (sym x.integer)
