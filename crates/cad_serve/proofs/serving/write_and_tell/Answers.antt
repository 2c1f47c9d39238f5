use Rattle.std.proofs.Common.{◌∷◌, [], ◌∙◌, ap}
use Rattle.cad_host.specs.Disk.{taken}
use Rattle.cad_wire.specs.Body.{body_bytes}
use Rattle.cad_accounts.specs.Registers.{applied}
use Rattle.cad_store.specs.Stores.{held}
use Rattle.cad_serve.specs.Code.Progress.{Said, Halted}
use Rattle.cad_serve.proofs.Saids.{commit_broke, on_told}
use Rattle.cad_serve.proofs.Tellings.{told_said, told_stops, wrote_said, wrote_broke}
use Rattle.cad_serve.proofs.Writings.{taken_recorded, taken_told}
use Rattle.cad_serve.proofs.serving.write_and_tell.Goals as goal

pub returns-in-Ok-clause-said : goal.returns-in-Ok-clause-said
returns-in-Ok-clause-said g c = λ tell base w v command a changes is_w answers is out is_v leads some.
    told_said c.tell.result (Said base w (command ∷ []) (g.H.Host.trace c.args.host.now) (g.H.Host.trace c.tell.new.host) c.commit.new.self) c.args.text.now (g.H.Host.trace c.commit.new.host) (g.H.Host.trace c.tell.new.host) (c.tell.ensures.puts tell)
    (wrote_said base w v command a answers (g.H.Host.trace c.args.host.now) (g.H.Host.trace c.commit.new.host) (held c.args.store.now) changes c.commit.new.self (c.commit.ensures.says tell) is_w is_v (c.in-Ok.ensures.ok changes out)
    (c.commit.ensures.moments tell changes out) (c.in-Ok.ensures.on tell) leads some (c.in-Ok.ensures.order tell changes out) c.args.text.now (g.H.Host.trace c.tell.new.host) is)

pub returns-in-Ok-clause-stops : goal.returns-in-Ok-clause-stops
returns-in-Ok-clause-stops g c = λ tell base w v command a changes is_w answers is out is_v leads some.
    told_stops c.tell.result _ (λ s. Halted s base w (command ∷ []) (g.H.Host.trace c.args.host.now) (g.H.Host.trace c.tell.new.host)) c.args.text.now (g.H.Host.trace c.commit.new.host) (g.H.Host.trace c.tell.new.host) c.tell.ensures.cause (c.tell.ensures.puts tell)
    (wrote_broke base w v command a answers (g.H.Host.trace c.args.host.now) (g.H.Host.trace c.commit.new.host) (held c.args.store.now) changes c.commit.new.self (c.commit.ensures.says tell) is_w is_v (c.in-Ok.ensures.ok changes out)
    (c.commit.ensures.moments tell changes out) (c.in-Ok.ensures.on tell) leads some (c.in-Ok.ensures.order tell changes out) c.args.text.now (g.H.Host.trace c.tell.new.host) is)

pub returns-in-Ok-clause-on : goal.returns-in-Ok-clause-on
returns-in-Ok-clause-on g c = on_told c.tell.result c.args.text.now c.commit.new.self (g.H.Host.trace c.commit.new.host) (g.H.Host.trace c.tell.new.host) c.tell.ensures.puts c.in-Ok.ensures.on

pub returns-in-Err-clause-stops : goal.returns-in-Err-clause-stops
returns-in-Err-clause-stops g c = λ tell base w v command a changes is_w answers is out is_v leads some.
    commit_broke base w v command a answers (g.H.Host.trace c.args.host.now) (held c.args.store.now) (applied changes (held c.args.store.now)) changes (g.H.Host.trace c.commit.new.host) (c.commit.ensures.says tell) is_w is_v
    (c.commit.ensures.moments tell changes out) leads some (c.in-Err.ensures.breaks tell changes out)

pub returns-in-Ok-clause-takes : goal.returns-in-Ok-clause-takes
returns-in-Ok-clause-takes g c =
    taken_told c.tell.result c.args.text.now (g.H.Host.trace c.args.host.now) (g.H.Host.trace c.commit.new.host) (g.H.Host.trace c.tell.new.host) c.tell.ensures.puts
    (λ tell. ap taken (c.in-Ok.ensures.order tell c.requires.out.0 c.requires.out.1) ∙ taken_recorded (body_bytes c.requires.out.0) (g.H.Host.trace c.args.host.now))
