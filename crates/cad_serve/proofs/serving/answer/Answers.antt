use Rattle.std.proofs.Common.{◌∷◌, [], subst, sym}
use Rattle.cad_worlds.specs.Standing.{StandsFor}
use Rattle.cad_accounts.specs.Registers.{applied}
use Rattle.cad_serve_parts.specs.Code.Worlds.{AreSound}
use Rattle.cad_store.specs.Stores.{held}
use Rattle.cad_serve.specs.Code.Progress.{Said, Halted}
use Rattle.cad_serve.proofs.Saids.{memory_here, stays_said, stays_broke, on_told}
use Rattle.cad_serve.proofs.Tellings.{told_said, told_stops, on_ok, on_map, sound_as}
use Rattle.cad_serve.proofs.serving.answer.Goals as goal

pub returns-in_default-clause-stops : goal.returns-in_default-clause-stops
returns-in_default-clause-stops g c = λ tell base pending h w is_w. memory_here base w (pending ∷ []) (g.H.Host.trace c.args.host.now) c.args.store.now (c.requires.on tell) is_w

pub returns-in-Reply-clause-said : goal.returns-in-Reply-clause-said
returns-in-Reply-clause-said g c = λ tell base pending h w is_w.
    let r = rw c.in-Reply.is at c.in-Ok.ensures.ready w is_w in
    told_said c.tell.result (Said base w (pending ∷ []) (g.H.Host.trace c.args.host.now) (g.H.Host.trace c.tell.new.host) c.prepare.new.store) c.in-Reply.text (g.H.Host.trace c.args.host.now) (g.H.Host.trace c.tell.new.host) (c.tell.ensures.puts tell)
    (λ made. stays_said base w r.1 pending r.0 (r.2 pending h) (g.H.Host.trace c.args.host.now) c.one_world.ensures c.in-Reply.text (g.H.Host.trace c.tell.new.host) c.prepare.new.store r.3 made
    (subst (λ m. StandsFor m w) (sym c.prepare.ensures.held) is_w) r.4 (c.prepare.ensures.on (g.H.Host.trace c.args.host.now) (c.requires.on tell)))

pub returns-in-Reply-clause-stops : goal.returns-in-Reply-clause-stops
returns-in-Reply-clause-stops g c = λ tell base pending h w is_w.
    let r = rw c.in-Reply.is at c.in-Ok.ensures.ready w is_w in
    told_stops c.tell.result _ (λ s. Halted s base w (pending ∷ []) (g.H.Host.trace c.args.host.now) (g.H.Host.trace c.tell.new.host)) c.in-Reply.text (g.H.Host.trace c.args.host.now) (g.H.Host.trace c.tell.new.host) c.tell.ensures.cause (c.tell.ensures.puts tell)
    (λ broke. stays_broke base w r.1 pending r.0 (r.2 pending h) (g.H.Host.trace c.args.host.now) c.one_world.ensures c.in-Reply.text (g.H.Host.trace c.tell.new.host) c.prepare.new.store r.3 broke
    (subst (λ m. StandsFor m w) (sym c.prepare.ensures.held) is_w) r.4 (c.prepare.ensures.on (g.H.Host.trace c.args.host.now) (c.requires.on tell)))

pub returns-in-Reply-clause-sound : goal.returns-in-Reply-clause-sound
returns-in-Reply-clause-sound g c = on_ok c.tell.result (AreSound (held c.prepare.new.store)) (subst AreSound (sym c.prepare.ensures.held) c.requires.sound)

pub returns-in-Reply-clause-on : goal.returns-in-Reply-clause-on
returns-in-Reply-clause-on g c =
    on_told c.tell.result c.in-Reply.text c.prepare.new.store (g.H.Host.trace c.args.host.now) (g.H.Host.trace c.tell.new.host) c.tell.ensures.puts (λ tell. c.prepare.ensures.on (g.H.Host.trace c.args.host.now) (c.requires.on tell))

pub write_and_tell-requires-clause-out : goal.write_and_tell-requires-clause-out
write_and_tell-requires-clause-out g c =
    let r = rw c.in-Commit.is at c.in-Ok.ensures.ready c.requires.sound.0 c.requires.sound.1 in
    (r.2, r.5)

pub write_and_tell-requires-clause-on : goal.write_and_tell-requires-clause-on
write_and_tell-requires-clause-on g c = λ tell. c.prepare.ensures.on (g.H.Host.trace c.args.host.now) (c.requires.on tell)

pub returns-in-Commit-clause-said : goal.returns-in-Commit-clause-said
returns-in-Commit-clause-said g c = λ tell base pending h w is_w.
    let r = rw c.in-Commit.is at c.in-Ok.ensures.ready w is_w in
    c.write_and_tell.ensures.said tell base w r.1 pending r.0 r.2 (subst (λ m. StandsFor m w) (sym c.prepare.ensures.held) is_w) (r.3 pending h) r.4 r.5 r.6 r.7 r.8

pub returns-in-Commit-clause-stops : goal.returns-in-Commit-clause-stops
returns-in-Commit-clause-stops g c = λ tell base pending h w is_w.
    let r = rw c.in-Commit.is at c.in-Ok.ensures.ready w is_w in
    c.write_and_tell.ensures.stops tell base w r.1 pending r.0 r.2 (subst (λ m. StandsFor m w) (sym c.prepare.ensures.held) is_w) (r.3 pending h) r.4 r.5 r.6 r.7 r.8

pub returns-in-Commit-clause-sound : goal.returns-in-Commit-clause-sound
returns-in-Commit-clause-sound g c =
    let r = rw c.in-Commit.is at c.in-Ok.ensures.ready c.requires.sound.0 c.requires.sound.1 in
    on_map c.write_and_tell.result _ (AreSound (held c.write_and_tell.new.store)) (λ holds. sound_as (held c.write_and_tell.new.store) (applied r.2 (held c.prepare.new.store)) r.1 (holds r.2 r.5) r.6) c.write_and_tell.ensures.held
