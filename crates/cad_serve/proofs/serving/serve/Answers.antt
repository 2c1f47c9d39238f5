use Rattle.std.proofs.Common.{inl, inr, ⊎_elim, sym, subst}
use Rattle.cad_store.specs.Opening.{opened}
use Rattle.cad_serve.specs.Ending.{HasRun}
use Rattle.cad_serve.specs.Code.Ending.{Leaves, EndsOpening, IsCausedBy}
use Rattle.cad_serve_parts.proofs.Numerals.{is_other, one_form}
use Rattle.cad_serve.proofs.Runs.{ends_begin}
use Rattle.cad_serve.proofs.Openings.{opening_begins, no_input_fault, no_output_fault, no_disk_fault}
use Rattle.cad_serve.proofs.serving.serve.Goals as goal

pub returns-then-is_run-clause-done : goal.returns-then-is_run-clause-done
returns-then-is_run-clause-done g c = λ tell run is w disk. ⊎_elim
    (λ early. let o = subst (λ s. EndsOpening s (g.H.Host.left c.args.host.now) (g.H.Host.left c.open_and_run.new.host) (g.H.Host.trace c.args.host.now) (g.H.Host.trace c.open_and_run.new.host)) is early in absurd o)
    (λ ends. let e = subst (λ s. Leaves s w (g.H.Host.left c.args.host.now) (g.H.Host.left c.open_and_run.new.host) (opened (g.H.Host.trace c.args.host.now)) (g.H.Host.trace c.open_and_run.new.host)) is ends.leaves in (e.0, e.1, e.3, e.4, e.5))
    (c.open_and_run.ensures.ends tell w disk)

pub returns-then-is_run-clause-memory : goal.returns-then-is_run-clause-memory
returns-then-is_run-clause-memory g c = λ tell run is w disk. ⊎_elim
    (λ early. let o = subst (λ s. EndsOpening s (g.H.Host.left c.args.host.now) (g.H.Host.left c.open_and_run.new.host) (g.H.Host.trace c.args.host.now) (g.H.Host.trace c.open_and_run.new.host)) is early in inl o)
    (λ ends. let e = subst (λ s. Leaves s w (g.H.Host.left c.args.host.now) (g.H.Host.left c.open_and_run.new.host) (opened (g.H.Host.trace c.args.host.now)) (g.H.Host.trace c.open_and_run.new.host)) is ends.leaves in inr e)
    (c.open_and_run.ensures.ends tell w disk)

pub returns-then-is_run-clause-disk_fault : goal.returns-then-is_run-clause-disk_fault
returns-then-is_run-clause-disk_fault g c = λ tell run is w disk. ⊎_elim
    (λ early. let o = subst (λ s. EndsOpening s (g.H.Host.left c.args.host.now) (g.H.Host.left c.open_and_run.new.host) (g.H.Host.trace c.args.host.now) (g.H.Host.trace c.open_and_run.new.host)) is early in inl o)
    (λ ends. let e = subst (λ s. Leaves s w (g.H.Host.left c.args.host.now) (g.H.Host.left c.open_and_run.new.host) (opened (g.H.Host.trace c.args.host.now)) (g.H.Host.trace c.open_and_run.new.host)) is ends.leaves in inr e)
    (c.open_and_run.ensures.ends tell w disk)

pub returns-then-is_run-clause-write_fault : goal.returns-then-is_run-clause-write_fault
returns-then-is_run-clause-write_fault g c = λ tell run is w disk. ⊎_elim
    (λ early. let o = subst (λ s. EndsOpening s (g.H.Host.left c.args.host.now) (g.H.Host.left c.open_and_run.new.host) (g.H.Host.trace c.args.host.now) (g.H.Host.trace c.open_and_run.new.host)) is early in absurd o)
    (λ ends. let e = subst (λ s. Leaves s w (g.H.Host.left c.args.host.now) (g.H.Host.left c.open_and_run.new.host) (opened (g.H.Host.trace c.args.host.now)) (g.H.Host.trace c.open_and_run.new.host)) is ends.leaves in e)
    (c.open_and_run.ensures.ends tell w disk)

pub returns-then-is_run-clause-read_fault : goal.returns-then-is_run-clause-read_fault
returns-then-is_run-clause-read_fault g c = λ tell run is w disk. ⊎_elim
    (λ early. let o = subst (λ s. EndsOpening s (g.H.Host.left c.args.host.now) (g.H.Host.left c.open_and_run.new.host) (g.H.Host.trace c.args.host.now) (g.H.Host.trace c.open_and_run.new.host)) is early in absurd o)
    (λ ends. let e = subst (λ s. Leaves s w (g.H.Host.left c.args.host.now) (g.H.Host.left c.open_and_run.new.host) (opened (g.H.Host.trace c.args.host.now)) (g.H.Host.trace c.open_and_run.new.host)) is ends.leaves in e)
    (c.open_and_run.ensures.ends tell w disk)

pub returns-then-is_run-clause-bound : goal.returns-then-is_run-clause-bound
returns-then-is_run-clause-bound g c = λ tell run is w disk. ⊎_elim
    (λ early. let o = subst (λ s. EndsOpening s (g.H.Host.left c.args.host.now) (g.H.Host.left c.open_and_run.new.host) (g.H.Host.trace c.args.host.now) (g.H.Host.trace c.open_and_run.new.host)) is early in absurd o)
    (λ ends. let e = subst (λ s. Leaves s w (g.H.Host.left c.args.host.now) (g.H.Host.left c.open_and_run.new.host) (opened (g.H.Host.trace c.args.host.now)) (g.H.Host.trace c.open_and_run.new.host)) is ends.leaves in e)
    (c.open_and_run.ensures.ends tell w disk)

pub returns-then-is_run-clause-input_cause : goal.returns-then-is_run-clause-input_cause
returns-then-is_run-clause-input_cause g c = λ is.
    (subst (λ s. IsCausedBy s (g.H.Host.input_faults c.args.host.now) (g.H.Host.input_faults c.open_and_run.new.host) (g.H.Host.output_faults c.args.host.now) (g.H.Host.output_faults c.open_and_run.new.host) (g.H.Host.disk_faults c.args.host.now) (g.H.Host.disk_faults c.open_and_run.new.host)) is c.open_and_run.ensures.cause).0

pub returns-then-is_run-clause-output_cause : goal.returns-then-is_run-clause-output_cause
returns-then-is_run-clause-output_cause g c = λ is.
    (subst (λ s. IsCausedBy s (g.H.Host.input_faults c.args.host.now) (g.H.Host.input_faults c.open_and_run.new.host) (g.H.Host.output_faults c.args.host.now) (g.H.Host.output_faults c.open_and_run.new.host) (g.H.Host.disk_faults c.args.host.now) (g.H.Host.disk_faults c.open_and_run.new.host)) is c.open_and_run.ensures.cause).1

pub returns-then-is_run-clause-disk_cause : goal.returns-then-is_run-clause-disk_cause
returns-then-is_run-clause-disk_cause g c = λ is.
    (subst (λ s. IsCausedBy s (g.H.Host.input_faults c.args.host.now) (g.H.Host.input_faults c.open_and_run.new.host) (g.H.Host.output_faults c.args.host.now) (g.H.Host.output_faults c.open_and_run.new.host) (g.H.Host.disk_faults c.args.host.now) (g.H.Host.disk_faults c.open_and_run.new.host)) is c.open_and_run.ensures.cause).2

pub returns-then-is_run-clause-no_input_fault : goal.returns-then-is_run-clause-no_input_fault
returns-then-is_run-clause-no_input_fault g c = no_input_fault c.open_and_run.result (g.H.Host.input_faults c.args.host.now) (g.H.Host.input_faults c.open_and_run.new.host) (g.H.Host.output_faults c.args.host.now) (g.H.Host.output_faults c.open_and_run.new.host) (g.H.Host.disk_faults c.args.host.now) (g.H.Host.disk_faults c.open_and_run.new.host) c.open_and_run.ensures.cause

pub returns-then-is_run-clause-no_output_fault : goal.returns-then-is_run-clause-no_output_fault
returns-then-is_run-clause-no_output_fault g c = no_output_fault c.open_and_run.result (g.H.Host.input_faults c.args.host.now) (g.H.Host.input_faults c.open_and_run.new.host) (g.H.Host.output_faults c.args.host.now) (g.H.Host.output_faults c.open_and_run.new.host) (g.H.Host.disk_faults c.args.host.now) (g.H.Host.disk_faults c.open_and_run.new.host) c.open_and_run.ensures.cause

pub returns-then-is_run-clause-no_disk_fault : goal.returns-then-is_run-clause-no_disk_fault
returns-then-is_run-clause-no_disk_fault g c = no_disk_fault c.open_and_run.result (g.H.Host.input_faults c.args.host.now) (g.H.Host.input_faults c.open_and_run.new.host) (g.H.Host.output_faults c.args.host.now) (g.H.Host.output_faults c.open_and_run.new.host) (g.H.Host.disk_faults c.args.host.now) (g.H.Host.disk_faults c.open_and_run.new.host) c.open_and_run.ensures.cause

pub returns-then-is_run-clause-begun : goal.returns-then-is_run-clause-begun
returns-then-is_run-clause-begun g c = λ tell run w disk. ⊎_elim
    (λ early. opening_begins c.open_and_run.result w (g.H.Host.left c.args.host.now) (g.H.Host.left c.open_and_run.new.host) (g.H.Host.trace c.args.host.now) (g.H.Host.trace c.open_and_run.new.host) early)
    (λ ends. ends_begin c.open_and_run.result w (g.H.Host.left c.args.host.now) (g.H.Host.left c.open_and_run.new.host) (opened (g.H.Host.trace c.args.host.now)) (g.H.Host.trace c.open_and_run.new.host) ends.leaves)
    (c.open_and_run.ensures.ends tell w disk)

pub returns-then-is_run-clause-within : goal.returns-then-is_run-clause-within
returns-then-is_run-clause-within g c = λ tell run is.
    let found = c.open_and_run.ensures.opened tell (subst HasRun (sym is) tt) in
    ⊎_elim
    (λ early. absurd (subst (λ s. EndsOpening s (g.H.Host.left c.args.host.now) (g.H.Host.left c.open_and_run.new.host) (g.H.Host.trace c.args.host.now) (g.H.Host.trace c.open_and_run.new.host)) is early))
    (λ ends. (subst (λ s. Leaves s found.0 (g.H.Host.left c.args.host.now) (g.H.Host.left c.open_and_run.new.host) (opened (g.H.Host.trace c.args.host.now)) (g.H.Host.trace c.open_and_run.new.host)) is ends.leaves).2)
    (c.open_and_run.ensures.ends tell found.0 found.1)

pub returns-clause-bad_store : goal.returns-clause-bad_store
returns-clause-bad_store g c = λ tell run. absurd (is_other c.is_run.result _ c.is_run.ensures c.if-is_run.false run)

pub returns-clause-unopened : goal.returns-clause-unopened
returns-clause-unopened g c = λ tell run. absurd (is_other c.is_run.result _ c.is_run.ensures c.if-is_run.false run)

pub returns-clause-opened : goal.returns-clause-opened
returns-clause-opened g c = λ tell run. absurd (is_other c.is_run.result _ c.is_run.ensures c.if-is_run.false run)

pub returns-clause-done : goal.returns-clause-done
returns-clause-done g c = λ tell run. absurd (is_other c.is_run.result _ c.is_run.ensures c.if-is_run.false run)

pub returns-clause-begun : goal.returns-clause-begun
returns-clause-begun g c = λ tell run. absurd (is_other c.is_run.result _ c.is_run.ensures c.if-is_run.false run)

pub returns-clause-memory : goal.returns-clause-memory
returns-clause-memory g c = λ tell run. absurd (is_other c.is_run.result _ c.is_run.ensures c.if-is_run.false run)

pub returns-clause-disk_fault : goal.returns-clause-disk_fault
returns-clause-disk_fault g c = λ tell run. absurd (is_other c.is_run.result _ c.is_run.ensures c.if-is_run.false run)

pub returns-clause-write_fault : goal.returns-clause-write_fault
returns-clause-write_fault g c = λ tell run. absurd (is_other c.is_run.result _ c.is_run.ensures c.if-is_run.false run)

pub returns-clause-read_fault : goal.returns-clause-read_fault
returns-clause-read_fault g c = λ tell run. absurd (is_other c.is_run.result _ c.is_run.ensures c.if-is_run.false run)

pub returns-clause-bound : goal.returns-clause-bound
returns-clause-bound g c = λ tell run. absurd (is_other c.is_run.result _ c.is_run.ensures c.if-is_run.false run)

pub returns-clause-within : goal.returns-clause-within
returns-clause-within g c = λ tell run. absurd (is_other c.is_run.result _ c.is_run.ensures c.if-is_run.false run)

pub returns-clause-survives : goal.returns-clause-survives
returns-clause-survives g c = λ tell run. absurd (is_other c.is_run.result _ c.is_run.ensures c.if-is_run.false run)

pub returns-then-is_run-clause-generated : goal.returns-then-is_run-clause-generated
returns-then-is_run-clause-generated g c = λ tell is n asked. absurd (one_form c.args.words.now n (c.is_run.ensures.0 c.if-is_run.true) asked)

pub returns-then-is_run-clause-generated_fault : goal.returns-then-is_run-clause-generated_fault
returns-then-is_run-clause-generated_fault g c = λ tell is n asked. absurd (one_form c.args.words.now n (c.is_run.ensures.0 c.if-is_run.true) asked)

pub returns-then-is_run-clause-generated_memory : goal.returns-then-is_run-clause-generated_memory
returns-then-is_run-clause-generated_memory g c = λ tell is n asked. absurd (one_form c.args.words.now n (c.is_run.ensures.0 c.if-is_run.true) asked)

pub returns-then-is_run-clause-generated_status : goal.returns-then-is_run-clause-generated_status
returns-then-is_run-clause-generated_status g c = λ n asked. absurd (one_form c.args.words.now n (c.is_run.ensures.0 c.if-is_run.true) asked)

pub returns-then-is_run-clause-generated_left : goal.returns-then-is_run-clause-generated_left
returns-then-is_run-clause-generated_left g c = λ tell n asked. absurd (one_form c.args.words.now n (c.is_run.ensures.0 c.if-is_run.true) asked)

pub returns-then-is_run-clause-bad_store : goal.returns-then-is_run-clause-bad_store
returns-then-is_run-clause-bad_store g c = λ tell run is. c.open_and_run.ensures.bad tell is
