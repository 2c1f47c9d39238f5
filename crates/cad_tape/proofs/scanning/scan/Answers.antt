use Rattle.std.proofs.Common.{◌≡◌, ◌<◌, ℕ, Some, Ok, List, length, drop, ap, sym, ◌∙◌, subst, arith}
use Rattle.std.proofs.lemmas.Result.{err_from_is_err_and}
use Rattle.cad_host.specs.Disk.{reads}
use Rattle.cad_tape.specs.Code.Scanning.{Takes}
use Rattle.cad_tape.proofs.Along.{along_begins}
use Rattle.cad_tape.proofs.Taking.{bad_of, err_is}
use Rattle.cad_tape.specs.declared.stop.ScanStop.TheVariants.{Damaged}
use Rattle.cad_tape.proofs.Going.{Going, going_begins, going_on, closed_reads, closed_ending, closed_ends, bad_reads, none_read, none_ending}
use Rattle.cad_tape.proofs.scanning.scan.Goals as goal

pub returns-then-end-eq0-clause-records : goal.returns-then-end-eq0-clause-records
returns-then-end-eq0-clause-records g c = λ tell.
    let bytes = reads (g.H.Host.trace c.args.host.now) c.args.tape in
    none_read bytes (sym (c.in_ok-end.ensures.is tell) ∙ c.if-end-eq0.true) ∙ ap (λ (l : List _). Some l) (sym c.new-records.ensures)

pub returns-then-end-eq0-clause-ending : goal.returns-then-end-eq0-clause-ending
returns-then-end-eq0-clause-ending g c = λ tell. none_ending (reads (g.H.Host.trace c.args.host.now) c.args.tape) (sym (c.in_ok-end.ensures.is tell) ∙ c.if-end-eq0.true)

pub records-init : goal.records-init
records-init g c = record {
  tape = c.new-window.ensures.tape;
  story = c.in_ok-end.ensures.story;
  stays = c.length.ensures.stays;
  disk = c.in_ok-end.ensures.cause;
  input = c.length.ensures.input;
  output = c.length.ensures.output;
  along = λ tell. along_begins (reads (g.H.Host.trace c.args.host.now) c.args.tape) (drop c.new-window.result.from c.new-window.result.bytes.items) c.new-window.result.place c.new-window.result.end c.new-window.ensures.unread c.new-window.ensures.place (c.new-window.ensures.end ∙ c.in_ok-end.ensures.is tell);
  going = λ tell.
      let bytes = reads (g.H.Host.trace c.args.host.now) c.args.tape in
      subst (λ (p : ℕ). Going bytes p c.new-records.result) (sym c.new-window.ensures.place) (subst (λ l. Going bytes 0 l) (sym c.new-records.ensures) (going_begins bytes));
}

pub returns-in_err-entries-clause-damaged : goal.returns-in_err-entries-clause-damaged
returns-in_err-entries-clause-damaged g c = λ tell damaged.
    let bytes = reads (g.H.Host.trace c.args.host.now) c.args.tape in
    let inv = c.records.invariant in
    let is : bytes ≡ reads (g.H.Host.trace c.records.host) c.records.window.tape = λ i. reads (sym (inv.story tell) i) (sym inv.tape i) in
    let p = err_from_is_err_and c.from_residual-in_err-entries.result c.from_residual-in_err-entries.ensures.1 in
    let taken = c.in_err-entries.ensures.is tell bytes is (inv.along tell) in
    let some : 0 < length bytes = omega (arith, c.if-end-eq0.false, c.in_ok-end.ensures.is tell) in
    bad_reads bytes c.records.window.place c.records.records some (inv.going tell)
    (bad_of c.in_err-entries.field-0.0 bytes c.records.window.place c.next_record.new.window.place taken (sym p.2 ∙ err_is c.from_residual-in_err-entries.result p.0 Damaged p.1 damaged))

pub records-preserved : goal.records-preserved
records-preserved g c = record {
  tape = c.next_record.ensures.tape ∙ c.records.invariant.tape;
  story = λ tell. c.in_ok-entries.ensures.story tell ∙ c.records.invariant.story tell;
  stays = λ tell. c.next_record.ensures.stays tell ∙ c.records.invariant.stays tell;
  disk = c.in_ok-entries.ensures.cause ∙ c.records.invariant.disk;
  input = c.next_record.ensures.input ∙ c.records.invariant.input;
  output = c.next_record.ensures.output ∙ c.records.invariant.output;
  along = λ tell.
      let bytes = reads (g.H.Host.trace c.args.host.now) c.args.tape in
      let inv = c.records.invariant in
      let is : bytes ≡ reads (g.H.Host.trace c.records.host) c.records.window.tape = λ i. reads (sym (inv.story tell) i) (sym inv.tape i) in
      c.in_ok-entries.ensures.along tell bytes is (inv.along tell);
  going = λ tell.
      let bytes = reads (g.H.Host.trace c.args.host.now) c.args.tape in
      let inv = c.records.invariant in
      let is : bytes ≡ reads (g.H.Host.trace c.records.host) c.records.window.tape = λ i. reads (sym (inv.story tell) i) (sym inv.tape i) in
      let taken = subst (λ o. Takes (Ok o) bytes c.records.window.place c.next_record.new.window.place) c.in-Some.is (c.in_ok-entries.ensures.is tell bytes is (inv.along tell)) in
      let on = going_on bytes c.records.window.place c.next_record.new.window.place c.records.records c.in-Some.entries (inv.going tell) taken in
      subst (λ l. Going bytes c.next_record.new.window.place l) (sym c.in_ok-push.ensures.ok) on;
}

pub returns-clause-records : goal.returns-clause-records
returns-clause-records g c = λ tell.
    let bytes = reads (g.H.Host.trace c.args.host.now) c.args.tape in
    let inv = c.records.invariant in
    let is : bytes ≡ reads (g.H.Host.trace c.records.host) c.records.window.tape = λ i. reads (sym (inv.story tell) i) (sym inv.tape i) in
    let taken = subst (λ o. Takes (Ok o) bytes c.records.window.place c.next_record.new.window.place) c.in_default.is (c.in_ok-entries.ensures.is tell bytes is (inv.along tell)) in
    closed_reads bytes c.records.window.place c.records.records (inv.going tell) taken.0

pub returns-clause-ending : goal.returns-clause-ending
returns-clause-ending g c = λ tell.
    let bytes = reads (g.H.Host.trace c.args.host.now) c.args.tape in
    let inv = c.records.invariant in
    let is : bytes ≡ reads (g.H.Host.trace c.records.host) c.records.window.tape = λ i. reads (sym (inv.story tell) i) (sym inv.tape i) in
    let taken = subst (λ o. Takes (Ok o) bytes c.records.window.place c.next_record.new.window.place) c.in_default.is (c.in_ok-entries.ensures.is tell bytes is (inv.along tell)) in
    taken.1 ∙ closed_ending bytes c.records.window.place c.records.records (inv.going tell) taken.0

pub returns-clause-ends : goal.returns-clause-ends
returns-clause-ends g c = λ tell some.
    let bytes = reads (g.H.Host.trace c.args.host.now) c.args.tape in
    let inv = c.records.invariant in
    let is : bytes ≡ reads (g.H.Host.trace c.records.host) c.records.window.tape = λ i. reads (sym (inv.story tell) i) (sym inv.tape i) in
    let taken = subst (λ o. Takes (Ok o) bytes c.records.window.place c.next_record.new.window.place) c.in_default.is (c.in_ok-entries.ensures.is tell bytes is (inv.along tell)) in
    closed_ends bytes c.records.window.place c.next_record.new.window.place c.records.records (inv.going tell) taken.0 taken.1

pub returns-then-end-eq0-clause-ends : goal.returns-then-end-eq0-clause-ends
returns-then-end-eq0-clause-ends g c = λ tell some. absurd (omega (arith, some, c.in_ok-end.ensures.is tell, c.if-end-eq0.true))
