use Rattle.std.proofs.Common.{◌≡◌, [], ◌∷◌, refl, ◌∙◌, inr, ap, subst, arith}
use Rattle.cad_host.specs.declared.host.Tape.TheVariants.{Pick}
use Rattle.cad_host.specs.Disk.{wrote, synced, output, BreaksWrite, BreaksSync}
use Rattle.cad_host.proofs.Kept.{write_output, sync_output}
use Rattle.cad_tape.specs.Framing.{framed}
use Rattle.cad_tape.specs.Reading.{stored, pick_of, at_write, at_sync, at_second_write, at_second_sync}
use Rattle.cad_tape.proofs.Four.{is1, four_broke, end1, end2, end3, end4, done}
use Rattle.cad_tape.proofs.Onto.{short_body, steps, placed_at, quiet_at}
use Rattle.cad_tape.proofs.commit.checkpoint.Goals as goal

pub returns-in_err-write-clause-moments : goal.returns-in_err-write-clause-moments
returns-in_err-write-clause-moments g c =
    λ tell quiet body form.
    let m0 = g.H.Host.trace c.args.host.now in
    let free = c.requires.free tell in
    let short = short_body body c.args.bytes.now form (omega arith) in
    let s = steps m0 c.args.onto body free short quiet in
    let place : 0 ≡ 0 = refl in
    end1 m0 (stored m0) (body ∷ []) c.args.onto 0 (1 ∷ framed body) Pick 0 (pick_of c.args.onto ∷ []) s 0 c.args.bytes.now (g.H.Host.trace c.write.new.self) place form (c.in_err-write.ensures.story tell)

pub returns-in_err-sync-clause-moments : goal.returns-in_err-sync-clause-moments
returns-in_err-sync-clause-moments g c =
    λ tell quiet body form.
    let m0 = g.H.Host.trace c.args.host.now in
    let free = c.requires.free tell in
    let short = short_body body c.args.bytes.now form (omega arith) in
    let s = steps m0 c.args.onto body free short quiet in
    let place : 0 ≡ 0 = refl in
    let e1 = is1 m0 c.args.onto 0 (1 ∷ framed body) 0 c.args.bytes.now (g.H.Host.trace c.write.new.self) place form (c.in_ok-write.ensures.story tell) in
    end2 m0 (stored m0) (body ∷ []) c.args.onto 0 (1 ∷ framed body) Pick 0 (pick_of c.args.onto ∷ []) s (g.H.Host.trace c.write.new.self) (g.H.Host.trace c.sync.new.self) e1 (c.in_err-sync.ensures.story tell)

pub returns-in_err-write-2-clause-moments : goal.returns-in_err-write-2-clause-moments
returns-in_err-write-2-clause-moments g c =
    λ tell quiet body form.
    let m0 = g.H.Host.trace c.args.host.now in
    let free = c.requires.free tell in
    let short = short_body body c.args.bytes.now form (omega arith) in
    let s = steps m0 c.args.onto body free short quiet in
    let place : 0 ≡ 0 = refl in
    let e1 = is1 m0 c.args.onto 0 (1 ∷ framed body) 0 c.args.bytes.now (g.H.Host.trace c.write.new.self) place form (c.in_ok-write.ensures.story tell) in
    let e2 = c.in_ok-sync.ensures.story tell ∙ ap (λ m. synced c.args.onto ∷ m) e1 in
    end3 m0 (stored m0) (body ∷ []) c.args.onto 0 (1 ∷ framed body) Pick 0 (pick_of c.args.onto ∷ []) s (g.H.Host.trace c.sync.new.self) (g.H.Host.trace c.write-2.new.self) e2 (subst (λ p. BreaksWrite Pick 0 (p ∷ []) (g.H.Host.trace c.sync.new.self) (g.H.Host.trace c.write-2.new.self)) c.pick_byte.ensures (c.in_err-write-2.ensures.story tell))

pub returns-in_err-sync-2-clause-moments : goal.returns-in_err-sync-2-clause-moments
returns-in_err-sync-2-clause-moments g c =
    λ tell quiet body form.
    let m0 = g.H.Host.trace c.args.host.now in
    let free = c.requires.free tell in
    let short = short_body body c.args.bytes.now form (omega arith) in
    let s = steps m0 c.args.onto body free short quiet in
    let place : 0 ≡ 0 = refl in
    let e1 = is1 m0 c.args.onto 0 (1 ∷ framed body) 0 c.args.bytes.now (g.H.Host.trace c.write.new.self) place form (c.in_ok-write.ensures.story tell) in
    let e2 = c.in_ok-sync.ensures.story tell ∙ ap (λ m. synced c.args.onto ∷ m) e1 in
    let e3 = c.in_ok-write-2.ensures.story tell ∙ (λ i. wrote Pick 0 (c.pick_byte.ensures i ∷ []) ∷ e2 i) in
    end4 m0 (stored m0) (body ∷ []) c.args.onto 0 (1 ∷ framed body) Pick 0 (pick_of c.args.onto ∷ []) s (g.H.Host.trace c.write-2.new.self) (g.H.Host.trace c.sync-2.new.self) e3 (c.in_err-sync-2.ensures.story tell)

pub returns-clause-moments : goal.returns-clause-moments
returns-clause-moments g c =
    λ tell quiet body form.
    let m0 = g.H.Host.trace c.args.host.now in
    let free = c.requires.free tell in
    let short = short_body body c.args.bytes.now form (omega arith) in
    let s = steps m0 c.args.onto body free short quiet in
    let place : 0 ≡ 0 = refl in
    let e1 = is1 m0 c.args.onto 0 (1 ∷ framed body) 0 c.args.bytes.now (g.H.Host.trace c.write.new.self) place form (c.in_ok-write.ensures.story tell) in
    let e2 = c.in_ok-sync.ensures.story tell ∙ ap (λ m. synced c.args.onto ∷ m) e1 in
    let e3 = c.in_ok-write-2.ensures.story tell ∙ (λ i. wrote Pick 0 (c.pick_byte.ensures i ∷ []) ∷ e2 i) in
    let e4 = c.in_ok-sync-2.ensures.story tell ∙ ap (λ m. synced Pick ∷ m) e3 in
    done m0 (stored m0) (body ∷ []) c.args.onto 0 (1 ∷ framed body) Pick 0 (pick_of c.args.onto ∷ []) s (g.H.Host.trace c.sync-2.new.self) e4

pub returns-clause-ok : goal.returns-clause-ok
returns-clause-ok g c =
    λ tell body form.
    let m0 = g.H.Host.trace c.args.host.now in
    let free = c.requires.free tell in
    let short = short_body body c.args.bytes.now form (omega arith) in
    let place : 0 ≡ 0 = refl in
    let e1 = is1 m0 c.args.onto 0 (1 ∷ framed body) 0 c.args.bytes.now (g.H.Host.trace c.write.new.self) place form (c.in_ok-write.ensures.story tell) in
    let e2 = c.in_ok-sync.ensures.story tell ∙ ap (λ m. synced c.args.onto ∷ m) e1 in
    let e3 = c.in_ok-write-2.ensures.story tell ∙ (λ i. wrote Pick 0 (c.pick_byte.ensures i ∷ []) ∷ e2 i) in
    let e4 = c.in_ok-sync-2.ensures.story tell ∙ ap (λ m. synced Pick ∷ m) e3 in
    placed_at m0 c.args.onto body free short c.saturating_sub-next.result c.args.bytes.now (g.H.Host.trace c.write.new.self) (g.H.Host.trace c.sync-2.new.self) c.saturating_sub-next.ensures form e1 e4 (c.in_ok-write.ensures.fits tell)

pub returns-clause-quiet : goal.returns-clause-quiet
returns-clause-quiet g c =
    λ tell.
    let body = c.requires.form.0 in
    let form = c.requires.form.1 in
    let m0 = g.H.Host.trace c.args.host.now in
    let free = c.requires.free tell in
    let short = short_body body c.args.bytes.now form (omega arith) in
    let place : 0 ≡ 0 = refl in
    let e1 = is1 m0 c.args.onto 0 (1 ∷ framed body) 0 c.args.bytes.now (g.H.Host.trace c.write.new.self) place form (c.in_ok-write.ensures.story tell) in
    let e2 = c.in_ok-sync.ensures.story tell ∙ ap (λ m. synced c.args.onto ∷ m) e1 in
    let e3 = c.in_ok-write-2.ensures.story tell ∙ (λ i. wrote Pick 0 (c.pick_byte.ensures i ∷ []) ∷ e2 i) in
    let e4 = c.in_ok-sync-2.ensures.story tell ∙ ap (λ m. synced Pick ∷ m) e3 in
    quiet_at m0 c.args.onto body free short (g.H.Host.trace c.sync-2.new.self) e4

-- no call puts anything
pub returns-in_err-write-clause-says : goal.returns-in_err-write-clause-says
returns-in_err-write-clause-says g c = λ tell. write_output c.args.onto _ _ (g.H.Host.trace c.args.host.now) (g.H.Host.trace c.write.new.self) (inr (c.in_err-write.ensures.story tell))

pub returns-in_err-sync-clause-says : goal.returns-in_err-sync-clause-says
returns-in_err-sync-clause-says g c = λ tell. sync_output c.args.onto (g.H.Host.trace c.write.new.self) (g.H.Host.trace c.sync.new.self) (inr (c.in_err-sync.ensures.story tell))
    ∙ ap output (c.in_ok-write.ensures.story tell)

pub returns-in_err-write-2-clause-says : goal.returns-in_err-write-2-clause-says
returns-in_err-write-2-clause-says g c = λ tell. write_output Pick 0 (c.pick_byte.result ∷ []) (g.H.Host.trace c.sync.new.self) (g.H.Host.trace c.write-2.new.self) (inr (c.in_err-write-2.ensures.story tell))
    ∙ ap output (c.in_ok-sync.ensures.story tell) ∙ ap output (c.in_ok-write.ensures.story tell)

pub returns-in_err-sync-2-clause-says : goal.returns-in_err-sync-2-clause-says
returns-in_err-sync-2-clause-says g c = λ tell. sync_output Pick (g.H.Host.trace c.write-2.new.self) (g.H.Host.trace c.sync-2.new.self) (inr (c.in_err-sync-2.ensures.story tell))
    ∙ ap output (c.in_ok-write-2.ensures.story tell) ∙ ap output (c.in_ok-sync.ensures.story tell) ∙ ap output (c.in_ok-write.ensures.story tell)

pub returns-clause-says : goal.returns-clause-says
returns-clause-says g c = λ tell. ap output (c.in_ok-sync-2.ensures.story tell)
    ∙ ap output (c.in_ok-write-2.ensures.story tell) ∙ ap output (c.in_ok-sync.ensures.story tell) ∙ ap output (c.in_ok-write.ensures.story tell)

-- the call that broke
pub returns-in_err-write-clause-breaks : goal.returns-in_err-write-clause-breaks
returns-in_err-write-clause-breaks g c =
    four_broke c.from_residual.result c.args.onto 0 c.args.bytes.now Pick 0 (pick_of c.args.onto ∷ []) (g.H.Host.trace c.args.host.now) (g.H.Host.trace c.write.new.self) (λ tell.
    at_write (c.in_err-write.ensures.story tell))

pub returns-in_err-sync-clause-breaks : goal.returns-in_err-sync-clause-breaks
returns-in_err-sync-clause-breaks g c =
    four_broke c.from_residual-in_err-sync.result c.args.onto 0 c.args.bytes.now Pick 0 (pick_of c.args.onto ∷ []) (g.H.Host.trace c.args.host.now) (g.H.Host.trace c.sync.new.self) (λ tell.
    let e1 = c.in_ok-write.ensures.story tell in
    at_sync (subst (λ m. BreaksSync c.args.onto m (g.H.Host.trace c.sync.new.self)) e1 (c.in_err-sync.ensures.story tell)))

pub returns-in_err-write-2-clause-breaks : goal.returns-in_err-write-2-clause-breaks
returns-in_err-write-2-clause-breaks g c =
    four_broke c.from_residual-in_err-write-2.result c.args.onto 0 c.args.bytes.now Pick 0 (pick_of c.args.onto ∷ []) (g.H.Host.trace c.args.host.now) (g.H.Host.trace c.write-2.new.self) (λ tell.
    let e1 = c.in_ok-write.ensures.story tell in
    let e2 = c.in_ok-sync.ensures.story tell ∙ ap (λ m. synced c.args.onto ∷ m) e1 in
    at_second_write (subst (λ m. BreaksWrite Pick 0 (pick_of c.args.onto ∷ []) m (g.H.Host.trace c.write-2.new.self)) e2
    (subst (λ p. BreaksWrite Pick 0 (p ∷ []) (g.H.Host.trace c.sync.new.self) (g.H.Host.trace c.write-2.new.self)) c.pick_byte.ensures (c.in_err-write-2.ensures.story tell))))

pub returns-in_err-sync-2-clause-breaks : goal.returns-in_err-sync-2-clause-breaks
returns-in_err-sync-2-clause-breaks g c =
    four_broke c.from_residual-in_err-sync-2.result c.args.onto 0 c.args.bytes.now Pick 0 (pick_of c.args.onto ∷ []) (g.H.Host.trace c.args.host.now) (g.H.Host.trace c.sync-2.new.self) (λ tell.
    let e1 = c.in_ok-write.ensures.story tell in
    let e2 = c.in_ok-sync.ensures.story tell ∙ ap (λ m. synced c.args.onto ∷ m) e1 in
    let e3 = c.in_ok-write-2.ensures.story tell ∙ (λ i. wrote Pick 0 (c.pick_byte.ensures i ∷ []) ∷ e2 i) in
    at_second_sync (subst (λ m. BreaksSync Pick m (g.H.Host.trace c.sync-2.new.self)) e3 (c.in_err-sync-2.ensures.story tell)))
