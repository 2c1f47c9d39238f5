use Rattle.std.proofs.Common.{inl, inr, sym, ◌∙◌, subst, ap, Err}
use Rattle.cad_store.specs.Opening.{opened}
use Rattle.cad_store.specs.declared.store.Store.{Store}
use Rattle.cad_serve_parts.specs.Lines.{commands}
use Rattle.cad_serve.specs.Crashes.{in_opening}
use Rattle.cad_serve.specs.Ending.{HasRun}
use Rattle.cad_serve.specs.Code.Ending.{EndsOpening, IsCausedBy}
use Rattle.cad_serve.proofs.Openings.{store_stands, ends_from, survives_from, stop_ends, bad_stop, stop_runs, stop_is_no_usage, run_cause, no_bad_store, no_usage, open_cause}
use Rattle.cad_serve.proofs.serving.open_and_run.Goals as goal

pub returns-in-Ok-clause-ends : goal.returns-in-Ok-clause-ends
returns-in-Ok-clause-ends g c = λ tell w disk.
    let stands = store_stands (g.H.Host.trace c.args.host.now) c.in-Ok.store w (c.in-Ok.ensures.holds tell) disk in
    inr (ends_from c.run-status.result w (g.H.Host.left c.args.host.now) (g.H.Host.left c.open.new.host) (g.H.Host.left c.run-status.new.host) (opened (g.H.Host.trace c.args.host.now)) (g.H.Host.trace c.open.new.host) (g.H.Host.trace c.run-status.new.host)
    (c.open.ensures.stays tell) (c.in-Ok.ensures.story tell) (c.run-status.ensures.ends tell w stands))

pub returns-in-Ok-clause-survives : goal.returns-in-Ok-clause-survives
returns-in-Ok-clause-survives g c = λ tell w disk.
    let stands = store_stands (g.H.Host.trace c.args.host.now) c.in-Ok.store w (c.in-Ok.ensures.holds tell) disk in
    survives_from w (commands (g.H.Host.left c.args.host.now)) (g.H.Host.trace c.args.host.now) (g.H.Host.trace c.open.new.host) (g.H.Host.trace c.run-status.new.host) (c.in-Ok.ensures.story tell) (c.open.ensures.moments tell)
    (ends_from c.run-status.result w (g.H.Host.left c.args.host.now) (g.H.Host.left c.open.new.host) (g.H.Host.left c.run-status.new.host) (opened (g.H.Host.trace c.args.host.now)) (g.H.Host.trace c.open.new.host) (g.H.Host.trace c.run-status.new.host)
    (c.open.ensures.stays tell) (c.in-Ok.ensures.story tell) (c.run-status.ensures.ends tell w stands)).survives

pub returns-in-Ok-clause-bad : goal.returns-in-Ok-clause-bad
returns-in-Ok-clause-bad g c = λ tell is. absurd (no_bad_store c.run-status.result _ _ _ _ _ _ c.run-status.ensures.cause is)

pub returns-in-Ok-clause-opened : goal.returns-in-Ok-clause-opened
returns-in-Ok-clause-opened g c = λ tell ran. (c.in-Ok.ensures.accepted.0, record { map = _; holds = c.in-Ok.ensures.holds tell; stands = c.in-Ok.ensures.accepted.1 })

pub returns-in-Ok-clause-unopened : goal.returns-in-Ok-clause-unopened
returns-in-Ok-clause-unopened g c = λ tell none.
    absurd (none c.in-Ok.ensures.accepted.0 (record { map = _; holds = c.in-Ok.ensures.holds tell; stands = c.in-Ok.ensures.accepted.1 }))

pub returns-in-Ok-clause-run : goal.returns-in-Ok-clause-run
returns-in-Ok-clause-run g c = no_usage c.run-status.result _ _ _ _ _ _ c.run-status.ensures.cause

pub returns-in-Ok-clause-cause : goal.returns-in-Ok-clause-cause
returns-in-Ok-clause-cause g c = run_cause c.run-status.result _ _ _ _ _ _ _ _ _ c.open.ensures.input c.open.ensures.output c.in-Ok.ensures.cause c.run-status.ensures.cause

pub returns-in-Err-clause-ends : goal.returns-in-Err-clause-ends
returns-in-Err-clause-ends g c = λ tell w disk.
    inl (subst (λ s. EndsOpening s (g.H.Host.left c.args.host.now) (g.H.Host.left c.open.new.host) (g.H.Host.trace c.args.host.now) (g.H.Host.trace c.open.new.host)) (sym c.stop_of.ensures)
    (stop_ends Store c.in-Err.stop (g.H.Host.left c.args.host.now) (g.H.Host.left c.open.new.host) (g.H.Host.trace c.args.host.now) (g.H.Host.trace c.open.new.host) (c.open.ensures.stays tell) (c.in-Err.ensures.story tell)
    (λ is. c.in-Err.ensures.bad tell (ap Err is) disk.map disk.holds (w, disk.stands))))

pub returns-in-Err-clause-survives : goal.returns-in-Err-clause-survives
returns-in-Err-clause-survives g c = λ tell w disk. in_opening (c.open.ensures.moments tell)

pub returns-in-Err-clause-bad : goal.returns-in-Err-clause-bad
returns-in-Err-clause-bad g c = λ tell is w disk.
    c.in-Err.ensures.bad tell (ap Err (bad_stop c.in-Err.stop (sym c.stop_of.ensures ∙ is))) disk.map disk.holds (w, disk.stands)

pub returns-in-Err-clause-unopened : goal.returns-in-Err-clause-unopened
returns-in-Err-clause-unopened g c = λ tell none. (c.open.ensures.stays tell, c.open.ensures.looked tell (λ m holds sound. none sound.0 (record { map = m; holds = holds; stands = sound.1 })))

pub returns-in-Err-clause-opened : goal.returns-in-Err-clause-opened
returns-in-Err-clause-opened g c = λ tell ran. absurd (stop_runs c.in-Err.stop (subst HasRun c.stop_of.ensures ran))

pub returns-in-Err-clause-run : goal.returns-in-Err-clause-run
returns-in-Err-clause-run g c = λ is. stop_is_no_usage c.in-Err.stop (sym c.stop_of.ensures ∙ is)

pub returns-in-Err-clause-cause : goal.returns-in-Err-clause-cause
returns-in-Err-clause-cause g c =
    subst (λ s. IsCausedBy s (g.H.Host.input_faults c.args.host.now) (g.H.Host.input_faults c.open.new.host) (g.H.Host.output_faults c.args.host.now) (g.H.Host.output_faults c.open.new.host) (g.H.Host.disk_faults c.args.host.now) (g.H.Host.disk_faults c.open.new.host))
    (sym c.stop_of.ensures)
    (open_cause Store c.in-Err.stop (g.H.Host.input_faults c.args.host.now) (g.H.Host.input_faults c.open.new.host) (g.H.Host.output_faults c.args.host.now) (g.H.Host.output_faults c.open.new.host) (g.H.Host.disk_faults c.args.host.now) (g.H.Host.disk_faults c.open.new.host)
    c.open.ensures.input c.open.ensures.output c.in-Err.ensures.cause)
