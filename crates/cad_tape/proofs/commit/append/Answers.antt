use Rattle.std.proofs.Common.{◌≡◌, refl, subst, ◌+◌, [], ◌∷◌, ◌++◌, ◌∙◌, inr, ap, arith}
use Rattle.cad_host.specs.Disk.{wrote, synced, output, BreaksWrite, BreaksSync}
use Rattle.cad_host.proofs.Kept.{write_output, sync_output}
use Rattle.cad_tape.specs.Framing.{framed}
use Rattle.cad_tape.specs.Reading.{stored, at_write, at_sync, at_second_write, at_second_sync}
use Rattle.cad_tape.proofs.Four.{is1, four_broke, end1, end2, end3, end4, done}
use Rattle.cad_tape.proofs.Steps.{short_body, steps, placed_at, quiet_at, inside}
use Rattle.cad_tape.proofs.commit.append.Goals as goal

pub returns-in_err-write-clause-moments : goal.returns-in_err-write-clause-moments
returns-in_err-write-clause-moments g c =
    λ tell quiet body form.
    let m0 = g.H.Host.trace c.args.host.now in
    let placed = c.requires.placed tell in
    let short = short_body body c.args.bytes.now form (omega arith) in
    let s = steps m0 c.args.tape c.args.at body placed short quiet in
    let place : c.saturating_add.result ≡ c.args.at + 1 = omega (arith, c.saturating_add.ensures, inside m0 c.args.tape c.args.at body placed short, placed.fits) in
    end1 m0 (stored m0) (stored m0 ++ body ∷ []) c.args.tape (c.args.at + 1) (framed body) c.args.tape c.args.at (1 ∷ []) s c.saturating_add.result c.args.bytes.now (g.H.Host.trace c.write.new.self) place form (c.in_err-write.ensures.story tell)

pub returns-in_err-sync-clause-moments : goal.returns-in_err-sync-clause-moments
returns-in_err-sync-clause-moments g c =
    λ tell quiet body form.
    let m0 = g.H.Host.trace c.args.host.now in
    let placed = c.requires.placed tell in
    let short = short_body body c.args.bytes.now form (omega arith) in
    let s = steps m0 c.args.tape c.args.at body placed short quiet in
    let place : c.saturating_add.result ≡ c.args.at + 1 = omega (arith, c.saturating_add.ensures, inside m0 c.args.tape c.args.at body placed short, placed.fits) in
    let e1 = is1 m0 c.args.tape (c.args.at + 1) (framed body) c.saturating_add.result c.args.bytes.now (g.H.Host.trace c.write.new.self) place form (c.in_ok-write.ensures.story tell) in
    end2 m0 (stored m0) (stored m0 ++ body ∷ []) c.args.tape (c.args.at + 1) (framed body) c.args.tape c.args.at (1 ∷ []) s (g.H.Host.trace c.write.new.self) (g.H.Host.trace c.sync.new.self) e1 (c.in_err-sync.ensures.story tell)

pub returns-in_err-write-2-clause-moments : goal.returns-in_err-write-2-clause-moments
returns-in_err-write-2-clause-moments g c =
    λ tell quiet body form.
    let m0 = g.H.Host.trace c.args.host.now in
    let placed = c.requires.placed tell in
    let short = short_body body c.args.bytes.now form (omega arith) in
    let s = steps m0 c.args.tape c.args.at body placed short quiet in
    let place : c.saturating_add.result ≡ c.args.at + 1 = omega (arith, c.saturating_add.ensures, inside m0 c.args.tape c.args.at body placed short, placed.fits) in
    let e1 = is1 m0 c.args.tape (c.args.at + 1) (framed body) c.saturating_add.result c.args.bytes.now (g.H.Host.trace c.write.new.self) place form (c.in_ok-write.ensures.story tell) in
    let e2 = c.in_ok-sync.ensures.story tell ∙ ap (λ m. synced c.args.tape ∷ m) e1 in
    end3 m0 (stored m0) (stored m0 ++ body ∷ []) c.args.tape (c.args.at + 1) (framed body) c.args.tape c.args.at (1 ∷ []) s (g.H.Host.trace c.sync.new.self) (g.H.Host.trace c.write-2.new.self) e2 (c.in_err-write-2.ensures.story tell)

pub returns-in_err-sync-2-clause-moments : goal.returns-in_err-sync-2-clause-moments
returns-in_err-sync-2-clause-moments g c =
    λ tell quiet body form.
    let m0 = g.H.Host.trace c.args.host.now in
    let placed = c.requires.placed tell in
    let short = short_body body c.args.bytes.now form (omega arith) in
    let s = steps m0 c.args.tape c.args.at body placed short quiet in
    let place : c.saturating_add.result ≡ c.args.at + 1 = omega (arith, c.saturating_add.ensures, inside m0 c.args.tape c.args.at body placed short, placed.fits) in
    let e1 = is1 m0 c.args.tape (c.args.at + 1) (framed body) c.saturating_add.result c.args.bytes.now (g.H.Host.trace c.write.new.self) place form (c.in_ok-write.ensures.story tell) in
    let e2 = c.in_ok-sync.ensures.story tell ∙ ap (λ m. synced c.args.tape ∷ m) e1 in
    let e3 = c.in_ok-write-2.ensures.story tell ∙ ap (λ m. wrote c.args.tape c.args.at (1 ∷ []) ∷ m) e2 in
    end4 m0 (stored m0) (stored m0 ++ body ∷ []) c.args.tape (c.args.at + 1) (framed body) c.args.tape c.args.at (1 ∷ []) s (g.H.Host.trace c.write-2.new.self) (g.H.Host.trace c.sync-2.new.self) e3 (c.in_err-sync-2.ensures.story tell)

pub returns-clause-moments : goal.returns-clause-moments
returns-clause-moments g c =
    λ tell quiet body form.
    let m0 = g.H.Host.trace c.args.host.now in
    let placed = c.requires.placed tell in
    let short = short_body body c.args.bytes.now form (omega arith) in
    let s = steps m0 c.args.tape c.args.at body placed short quiet in
    let place : c.saturating_add.result ≡ c.args.at + 1 = omega (arith, c.saturating_add.ensures, inside m0 c.args.tape c.args.at body placed short, placed.fits) in
    let e1 = is1 m0 c.args.tape (c.args.at + 1) (framed body) c.saturating_add.result c.args.bytes.now (g.H.Host.trace c.write.new.self) place form (c.in_ok-write.ensures.story tell) in
    let e2 = c.in_ok-sync.ensures.story tell ∙ ap (λ m. synced c.args.tape ∷ m) e1 in
    let e3 = c.in_ok-write-2.ensures.story tell ∙ ap (λ m. wrote c.args.tape c.args.at (1 ∷ []) ∷ m) e2 in
    let e4 = c.in_ok-sync-2.ensures.story tell ∙ ap (λ m. synced c.args.tape ∷ m) e3 in
    done m0 (stored m0) (stored m0 ++ body ∷ []) c.args.tape (c.args.at + 1) (framed body) c.args.tape c.args.at (1 ∷ []) s (g.H.Host.trace c.sync-2.new.self) e4

pub returns-clause-ok : goal.returns-clause-ok
returns-clause-ok g c =
    λ tell body form.
    let m0 = g.H.Host.trace c.args.host.now in
    let placed = c.requires.placed tell in
    let short = short_body body c.args.bytes.now form (omega arith) in
    let place : c.saturating_add.result ≡ c.args.at + 1 = omega (arith, c.saturating_add.ensures, inside m0 c.args.tape c.args.at body placed short, placed.fits) in
    let e1 = is1 m0 c.args.tape (c.args.at + 1) (framed body) c.saturating_add.result c.args.bytes.now (g.H.Host.trace c.write.new.self) place form (c.in_ok-write.ensures.story tell) in
    let e2 = c.in_ok-sync.ensures.story tell ∙ ap (λ m. synced c.args.tape ∷ m) e1 in
    let e3 = c.in_ok-write-2.ensures.story tell ∙ ap (λ m. wrote c.args.tape c.args.at (1 ∷ []) ∷ m) e2 in
    let e4 = c.in_ok-sync-2.ensures.story tell ∙ ap (λ m. synced c.args.tape ∷ m) e3 in
    placed_at m0 c.args.tape c.args.at body placed short c.saturating_add-next.result c.args.bytes.now (g.H.Host.trace c.write-2.new.self) (g.H.Host.trace c.sync-2.new.self) form c.saturating_add-next.ensures e3 e4 (c.in_ok-write-2.ensures.fits tell)

pub returns-clause-quiet : goal.returns-clause-quiet
returns-clause-quiet g c =
    λ tell quiet.
    let body = c.requires.form.0 in
    let form = c.requires.form.1 in
    let m0 = g.H.Host.trace c.args.host.now in
    let placed = c.requires.placed tell in
    let short = short_body body c.args.bytes.now form (omega arith) in
    let place : c.saturating_add.result ≡ c.args.at + 1 = omega (arith, c.saturating_add.ensures, inside m0 c.args.tape c.args.at body placed short, placed.fits) in
    let e1 = is1 m0 c.args.tape (c.args.at + 1) (framed body) c.saturating_add.result c.args.bytes.now (g.H.Host.trace c.write.new.self) place form (c.in_ok-write.ensures.story tell) in
    let e2 = c.in_ok-sync.ensures.story tell ∙ ap (λ m. synced c.args.tape ∷ m) e1 in
    let e3 = c.in_ok-write-2.ensures.story tell ∙ ap (λ m. wrote c.args.tape c.args.at (1 ∷ []) ∷ m) e2 in
    let e4 = c.in_ok-sync-2.ensures.story tell ∙ ap (λ m. synced c.args.tape ∷ m) e3 in
    quiet_at m0 c.args.tape c.args.at body placed short quiet (g.H.Host.trace c.sync-2.new.self) e4

-- no call puts anything
pub returns-in_err-write-clause-says : goal.returns-in_err-write-clause-says
returns-in_err-write-clause-says g c = λ tell. write_output c.args.tape _ _ (g.H.Host.trace c.args.host.now) (g.H.Host.trace c.write.new.self) (inr (c.in_err-write.ensures.story tell))

pub returns-in_err-sync-clause-says : goal.returns-in_err-sync-clause-says
returns-in_err-sync-clause-says g c = λ tell. sync_output c.args.tape (g.H.Host.trace c.write.new.self) (g.H.Host.trace c.sync.new.self) (inr (c.in_err-sync.ensures.story tell))
    ∙ ap output (c.in_ok-write.ensures.story tell)

pub returns-in_err-write-2-clause-says : goal.returns-in_err-write-2-clause-says
returns-in_err-write-2-clause-says g c = λ tell. write_output c.args.tape _ _ (g.H.Host.trace c.sync.new.self) (g.H.Host.trace c.write-2.new.self) (inr (c.in_err-write-2.ensures.story tell))
    ∙ ap output (c.in_ok-sync.ensures.story tell) ∙ ap output (c.in_ok-write.ensures.story tell)

pub returns-in_err-sync-2-clause-says : goal.returns-in_err-sync-2-clause-says
returns-in_err-sync-2-clause-says g c = λ tell. sync_output c.args.tape (g.H.Host.trace c.write-2.new.self) (g.H.Host.trace c.sync-2.new.self) (inr (c.in_err-sync-2.ensures.story tell))
    ∙ ap output (c.in_ok-write-2.ensures.story tell) ∙ ap output (c.in_ok-sync.ensures.story tell) ∙ ap output (c.in_ok-write.ensures.story tell)

pub returns-clause-says : goal.returns-clause-says
returns-clause-says g c = λ tell. ap output (c.in_ok-sync-2.ensures.story tell)
    ∙ ap output (c.in_ok-write-2.ensures.story tell) ∙ ap output (c.in_ok-sync.ensures.story tell) ∙ ap output (c.in_ok-write.ensures.story tell)

-- the call that broke
pub returns-in_err-write-clause-breaks : goal.returns-in_err-write-clause-breaks
returns-in_err-write-clause-breaks g c =
    four_broke c.from_residual.result c.args.tape (c.args.at + 1) c.args.bytes.now c.args.tape c.args.at (1 ∷ []) (g.H.Host.trace c.args.host.now) (g.H.Host.trace c.write.new.self) (λ tell.
    let body = c.requires.form.0 in
    let form = c.requires.form.1 in
    let m0 = g.H.Host.trace c.args.host.now in
    let placed = c.requires.placed tell in
    let short = short_body body c.args.bytes.now form (omega arith) in
    let place : c.saturating_add.result ≡ c.args.at + 1 = omega (arith, c.saturating_add.ensures, inside m0 c.args.tape c.args.at body placed short, placed.fits) in
    at_write (subst (λ n. BreaksWrite c.args.tape n c.args.bytes.now m0 (g.H.Host.trace c.write.new.self)) place (c.in_err-write.ensures.story tell)))

pub returns-in_err-sync-clause-breaks : goal.returns-in_err-sync-clause-breaks
returns-in_err-sync-clause-breaks g c =
    four_broke c.from_residual-in_err-sync.result c.args.tape (c.args.at + 1) c.args.bytes.now c.args.tape c.args.at (1 ∷ []) (g.H.Host.trace c.args.host.now) (g.H.Host.trace c.sync.new.self) (λ tell.
    let body = c.requires.form.0 in
    let form = c.requires.form.1 in
    let m0 = g.H.Host.trace c.args.host.now in
    let placed = c.requires.placed tell in
    let short = short_body body c.args.bytes.now form (omega arith) in
    let place : c.saturating_add.result ≡ c.args.at + 1 = omega (arith, c.saturating_add.ensures, inside m0 c.args.tape c.args.at body placed short, placed.fits) in
    let e1 = is1 m0 c.args.tape (c.args.at + 1) c.args.bytes.now c.saturating_add.result c.args.bytes.now (g.H.Host.trace c.write.new.self) place refl (c.in_ok-write.ensures.story tell) in
    at_sync (subst (λ m. BreaksSync c.args.tape m (g.H.Host.trace c.sync.new.self)) e1 (c.in_err-sync.ensures.story tell)))

pub returns-in_err-write-2-clause-breaks : goal.returns-in_err-write-2-clause-breaks
returns-in_err-write-2-clause-breaks g c =
    four_broke c.from_residual-in_err-write-2.result c.args.tape (c.args.at + 1) c.args.bytes.now c.args.tape c.args.at (1 ∷ []) (g.H.Host.trace c.args.host.now) (g.H.Host.trace c.write-2.new.self) (λ tell.
    let body = c.requires.form.0 in
    let form = c.requires.form.1 in
    let m0 = g.H.Host.trace c.args.host.now in
    let placed = c.requires.placed tell in
    let short = short_body body c.args.bytes.now form (omega arith) in
    let place : c.saturating_add.result ≡ c.args.at + 1 = omega (arith, c.saturating_add.ensures, inside m0 c.args.tape c.args.at body placed short, placed.fits) in
    let e1 = is1 m0 c.args.tape (c.args.at + 1) c.args.bytes.now c.saturating_add.result c.args.bytes.now (g.H.Host.trace c.write.new.self) place refl (c.in_ok-write.ensures.story tell) in
    let e2 = c.in_ok-sync.ensures.story tell ∙ ap (λ m. synced c.args.tape ∷ m) e1 in
    at_second_write (subst (λ m. BreaksWrite c.args.tape c.args.at (1 ∷ []) m (g.H.Host.trace c.write-2.new.self)) e2 (c.in_err-write-2.ensures.story tell)))

pub returns-in_err-sync-2-clause-breaks : goal.returns-in_err-sync-2-clause-breaks
returns-in_err-sync-2-clause-breaks g c =
    four_broke c.from_residual-in_err-sync-2.result c.args.tape (c.args.at + 1) c.args.bytes.now c.args.tape c.args.at (1 ∷ []) (g.H.Host.trace c.args.host.now) (g.H.Host.trace c.sync-2.new.self) (λ tell.
    let body = c.requires.form.0 in
    let form = c.requires.form.1 in
    let m0 = g.H.Host.trace c.args.host.now in
    let placed = c.requires.placed tell in
    let short = short_body body c.args.bytes.now form (omega arith) in
    let place : c.saturating_add.result ≡ c.args.at + 1 = omega (arith, c.saturating_add.ensures, inside m0 c.args.tape c.args.at body placed short, placed.fits) in
    let e1 = is1 m0 c.args.tape (c.args.at + 1) c.args.bytes.now c.saturating_add.result c.args.bytes.now (g.H.Host.trace c.write.new.self) place refl (c.in_ok-write.ensures.story tell) in
    let e2 = c.in_ok-sync.ensures.story tell ∙ ap (λ m. synced c.args.tape ∷ m) e1 in
    let e3 = c.in_ok-write-2.ensures.story tell ∙ ap (λ m. wrote c.args.tape c.args.at (1 ∷ []) ∷ m) e2 in
    at_second_sync (subst (λ m. BreaksSync c.args.tape m (g.H.Host.trace c.sync-2.new.self)) e3 (c.in_err-sync-2.ensures.story tell)))
