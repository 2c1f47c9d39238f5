use Rattle.std.proofs.Common.{◌≤◌, ◌∙◌, ap, arith, length, take, length-take}
use Rattle.std.proofs.lemmas.Result.{IfOk-weaker}
use Rattle.cad_host.specs.Disk.{state, reads, IsDisk}
use Rattle.cad_host.specs.Crash.{at_moment, IsFilledImage}
use Rattle.cad_host.specs.Record.{trace_of}
use Rattle.cad_host.specs.declared.host.Tape.{Tape}
use Rattle.cad_host.proofs.Replayed.{length_trace, three, crash_exact, crash_image}
use Rattle.cad_host.proofs.memory.MemHost.crash.Goals as goal

pub slice_bounds-past-end : goal.slice_bounds-past-end
slice_bounds-past-end c = omega (arith, c.requires, length_trace c.args.self.now.calls.items, ap length c.deref.ensures.value, length-take c.args.moment c.deref.result.now)

pub returns-clause-image : goal.returns-clause-image
returns-clause-image c =
    let calls = c.args.self.now.calls.items in
    let inside : c.args.moment ≤ length calls = omega (arith, c.requires, length_trace calls) in
    IfOk-weaker c.over.result _ (λ h. IsDisk (at_moment (trace_of calls) c.args.moment) (reads (trace_of h.calls.items)))
    (λ h is. crash_image calls _ c.args.moment inside (ap (take c.args.moment) c.deref.ensures.value) _ _ _ _
    (is ∙ (λ i. three (c.deref-2.ensures.value i) (c.deref-3.ensures.value i) (c.deref-4.ensures.value i)))
    c.in_ok-a.ensures.image c.in_ok-b.ensures.image c.in_ok-pick.ensures.image)
    c.over.ensures.trace

pub returns-clause-exact : goal.returns-clause-exact
returns-clause-exact c =
    let calls = c.args.self.now.calls.items in
    let inside : c.args.moment ≤ length calls = omega (arith, c.requires, length_trace calls) in
    IfOk-weaker c.over.result _ (λ h. (t : Tape) → IsFilledImage c.args.fill (state t (at_moment (trace_of calls) c.args.moment)) (reads (trace_of h.calls.items) t))
    (λ h is. crash_exact calls _ c.args.moment inside (ap (take c.args.moment) c.deref.ensures.value) _ _ _ _
    (is ∙ (λ i. three (c.deref-2.ensures.value i) (c.deref-3.ensures.value i) (c.deref-4.ensures.value i))) c.args.fill
    c.in_ok-a.ensures.exact c.in_ok-b.ensures.exact c.in_ok-pick.ensures.exact)
    c.over.ensures.trace
