use Rattle.std.proofs.Common.{◌≡◌, ℕ, List, ◌∷◌, ◌-◌, length, take, drop, subst}
use Rattle.cad_tape.specs.Framing.{framed}
use Rattle.cad_store.specs.Stores.{IsAt, BreaksRecord}
use Rattle.cad_store.specs.declared.place.Place.{Place}
use Rattle.cad_store.proofs.Placing.{behind_gate, onto_moments, onto_stored, order_onto, order_behind, breaks_onto, breaks_behind, told_err}
use Rattle.cad_store.proofs.commit.write_record.Goals as goal

pub returns-in_err-next-in-Onto-clause-moments : goal.returns-in_err-next-in-Onto-clause-moments
returns-in_err-next-in-Onto-clause-moments g c = λ tell quiet body form.
    let old = g.H.Host.trace c.args.host.now in
    let at = subst (λ (p : Place). IsAt old p) c.in-Onto.is (c.requires.place tell) in
    onto_moments old (g.H.Host.trace c.checkpoint.new.host) c.in-Onto.tape body at (c.checkpoint.ensures.moments tell quiet body form)

pub returns-in_ok-next-in-Onto-clause-moments : goal.returns-in_ok-next-in-Onto-clause-moments
returns-in_ok-next-in-Onto-clause-moments g c = λ tell quiet body form.
    let old = g.H.Host.trace c.args.host.now in
    let at = subst (λ (p : Place). IsAt old p) c.in-Onto.is (c.requires.place tell) in
    onto_moments old (g.H.Host.trace c.checkpoint.new.host) c.in-Onto.tape body at (c.checkpoint.ensures.moments tell quiet body form)

pub returns-in_ok-next-in-Onto-clause-ok : goal.returns-in_ok-next-in-Onto-clause-ok
returns-in_ok-next-in-Onto-clause-ok g c = λ tell body form.
    let old = g.H.Host.trace c.args.host.now in
    let at = subst (λ (p : Place). IsAt old p) c.in-Onto.is (c.requires.place tell) in
    let both = c.in_ok-next-in-Onto.ensures.ok tell body form in
    (both.0, onto_stored old (g.H.Host.trace c.checkpoint.new.host) c.in-Onto.tape body at both.1)

pub returns-in_ok-next-in-Onto-clause-order : goal.returns-in_ok-next-in-Onto-clause-order
returns-in_ok-next-in-Onto-clause-order g c = λ tell body form.
    let old = g.H.Host.trace c.args.host.now in
    let at = subst (λ (p : Place). IsAt old p) c.in-Onto.is (c.requires.place tell) in
    order_onto old (g.H.Host.trace c.checkpoint.new.host) c.in-Onto.tape c.args.bytes.now body at form (c.in_ok-next-in-Onto.ensures.order tell)

pub returns-in_ok-next-in-Behind-clause-ok : goal.returns-in_ok-next-in-Behind-clause-ok
returns-in_ok-next-in-Behind-clause-ok g c = λ tell body form. c.in_ok-next-in-Behind.ensures.ok tell body (behind_gate c.args.bytes.now body form)

pub returns-in_ok-next-in-Behind-clause-order : goal.returns-in_ok-next-in-Behind-clause-order
returns-in_ok-next-in-Behind-clause-order g c = λ tell body form.
    let old = g.H.Host.trace c.args.host.now in
    let at = subst (λ (p : Place). IsAt old p) c.in-Behind.is (c.requires.place tell) in
    order_behind old (g.H.Host.trace c.append.new.host) c.in-Behind.tape c.in-Behind.at (take (length c.args.bytes.now - 1) (drop 1 c.args.bytes.now)) body at (behind_gate c.args.bytes.now body form) (c.in_ok-next-in-Behind.ensures.order tell)

pub returns-in_err-next-in-Onto-clause-breaks : goal.returns-in_err-next-in-Onto-clause-breaks
returns-in_err-next-in-Onto-clause-breaks g c = told_err c.from_residual-in_err-next-in-Onto.result (g.H.Host.tells → (body : List ℕ) → c.args.bytes.now ≡ 1 ∷ framed body → BreaksRecord body (g.H.Host.trace c.args.host.now) (g.H.Host.trace c.checkpoint.new.host)) (λ tell body form.
    let old = g.H.Host.trace c.args.host.now in
    let at = subst (λ (p : Place). IsAt old p) c.in-Onto.is (c.requires.place tell) in
    breaks_onto old (g.H.Host.trace c.checkpoint.new.host) c.in-Onto.tape c.args.bytes.now body at form (c.in_err-next-in-Onto.ensures.breaks tell))

pub returns-in_err-next-in-Behind-clause-breaks : goal.returns-in_err-next-in-Behind-clause-breaks
returns-in_err-next-in-Behind-clause-breaks g c = told_err c.from_residual.result (g.H.Host.tells → (body : List ℕ) → c.args.bytes.now ≡ 1 ∷ framed body → BreaksRecord body (g.H.Host.trace c.args.host.now) (g.H.Host.trace c.append.new.host)) (λ tell body form.
    let old = g.H.Host.trace c.args.host.now in
    let at = subst (λ (p : Place). IsAt old p) c.in-Behind.is (c.requires.place tell) in
    breaks_behind old (g.H.Host.trace c.append.new.host) c.in-Behind.tape c.in-Behind.at (take (length c.args.bytes.now - 1) (drop 1 c.args.bytes.now)) body at (behind_gate c.args.bytes.now body form) (c.in_err-next-in-Behind.ensures.breaks tell))
