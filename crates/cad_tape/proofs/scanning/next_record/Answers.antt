use Rattle.std.proofs.Common.{◌≡◌, ◌≤◌, ◌+◌, ◌-◌, ℕ, Option, Some, length, take, drop, ap, sym, ◌∙◌, subst, arith}
use Rattle.std.proofs.lemmas.Result.{err_from_is_err_and}
use Rattle.cad_host.specs.Disk.{reads}
use Rattle.cad_wire.specs.Fields.{AreBytes}
use Rattle.cad_wire.specs.Reading.{entries_of}
use Rattle.cad_tape.specs.Code.Scanning.{IsAlong, IsBad, TakesRecord, header_at}
use Rattle.cad_tape.proofs.Taking.{no_gate, past_end, takes_record, bad_record, along_taken, along_at, err_takes}
use Rattle.cad_tape.proofs.scanning.next_record.Goals as goal

pub returns-in_default-clause-is : goal.returns-in_default-clause-is
returns-in_default-clause-is g c = λ tell bytes is along.
    let w = c.fill.new.window in
    let unread = drop w.from w.bytes.items in
    no_gate bytes c.args.window.now.place c.args.window.now.end unread (c.in_ok-fill.ensures.along tell bytes is along) (c.in_ok-fill.ensures.enough tell bytes is along)
    (ap header_at (sym c.unread.ensures.value) ∙ c.in_default.ensures.value)

pub returns-then-length-saturating_sub-clause-is : goal.returns-then-length-saturating_sub-clause-is
returns-then-length-saturating_sub-clause-is g c = λ tell bytes is along.
    let w1 = c.fill.new.window in
    let unread = drop w1.from w1.bytes.items in
    let are_bytes : AreBytes unread = subst AreBytes c.unread.ensures.value c.header.ensures.are_bytes in
    let header = ap header_at (sym c.unread.ensures.value) ∙ c.in-Ok.ensures.value ∙ ap (λ (o : Option ℕ). Some o) c.in-Some.is in
    past_end bytes c.args.window.now.place c.args.window.now.end unread c.in-Some.length are_bytes (c.in_ok-fill.ensures.along tell bytes is along) header (omega (arith, c.if-length-saturating_sub.true, c.saturating_sub.ensures, c.fill.ensures.end, c.fill.ensures.place))

pub returns-in_err-entries-clause-is : goal.returns-in_err-entries-clause-is
returns-in_err-entries-clause-is g c = λ tell bytes is along.
    let w1 = c.fill.new.window in
    let unread = drop w1.from w1.bytes.items in
    let a1 = c.in_ok-fill.ensures.along tell bytes is along in
    let a1' = along_at bytes unread c.args.window.now.place w1.place c.args.window.now.end w1.end (sym c.fill.ensures.place) (sym c.fill.ensures.end) a1 in
    let are_bytes : AreBytes unread = subst AreBytes c.unread.ensures.value c.header.ensures.are_bytes in
    let header = ap header_at (sym c.unread.ensures.value) ∙ c.in-Ok.ensures.value ∙ ap (λ (o : Option ℕ). Some o) c.in-Some.is in
    let w2 = c.fill-2.new.window in
    let more = drop w2.from w2.bytes.items in
    let is2 = is ∙ (λ i. reads (sym (c.in_ok-fill.ensures.story tell) i) (sym c.fill.ensures.tape i)) in
    let a2 = c.in_ok-fill-2.ensures.along tell bytes is2 a1' in
    let enough : 9 + c.in-Some.length ≤ length more = omega (arith, c.if-unread-need.false, ap length c.unread-2.ensures.value) in
    let p = err_from_is_err_and c.from_residual-in_err-entries.result c.from_residual-in_err-entries.ensures.1 in
    let same : 9 + c.in-Some.length - 9 ≡ c.in-Some.length = omega arith in
    let body = take (9 + c.in-Some.length - 9) (drop 9 c.unread-3.result.now) in
    let body_is : body ≡ take c.in-Some.length (drop 9 more) = λ i. take (same i) (drop 9 (c.unread-3.ensures.value i)) in
    rw (p.1, p.2) (err_takes c.in_err-entries.field-0.0 bytes c.args.window.now.place c.fill-2.new.window.place (entries_of body) c.in_err-entries.ensures.exact
    (λ none. subst (λ (k : ℕ). IsBad (drop k bytes)) c.fill.ensures.place (bad_record bytes w1.place w1.end unread more body c.in-Some.length are_bytes a1' header a2 enough body_is none)))

pub returns-clause-is : goal.returns-clause-is
returns-clause-is g c = λ tell bytes is along.
    let w1 = c.fill.new.window in
    let unread = drop w1.from w1.bytes.items in
    let a1 = c.in_ok-fill.ensures.along tell bytes is along in
    let a1' = along_at bytes unread c.args.window.now.place w1.place c.args.window.now.end w1.end (sym c.fill.ensures.place) (sym c.fill.ensures.end) a1 in
    let are_bytes : AreBytes unread = subst AreBytes c.unread.ensures.value c.header.ensures.are_bytes in
    let header = ap header_at (sym c.unread.ensures.value) ∙ c.in-Ok.ensures.value ∙ ap (λ (o : Option ℕ). Some o) c.in-Some.is in
    let w2 = c.fill-2.new.window in
    let more = drop w2.from w2.bytes.items in
    let is2 = is ∙ (λ i. reads (sym (c.in_ok-fill.ensures.story tell) i) (sym c.fill.ensures.tape i)) in
    let a2 = c.in_ok-fill-2.ensures.along tell bytes is2 a1' in
    let enough : 9 + c.in-Some.length ≤ length more = omega (arith, c.if-unread-need.false, ap length c.unread-2.ensures.value) in
    let same : 9 + c.in-Some.length - 9 ≡ c.in-Some.length = omega arith in
    let body = take (9 + c.in-Some.length - 9) (drop 9 c.unread-3.result.now) in
    let body_is : body ≡ take c.in-Some.length (drop 9 more) = λ i. take (same i) (drop 9 (c.unread-3.ensures.value i)) in
    let next_is = c.take.ensures.place ∙ ap (λ (k : ℕ). k + (9 + c.in-Some.length)) c.fill-2.ensures.place in
    let taken = takes_record bytes w1.place w1.end unread more body c.in-Some.length c.take.new.self.place c.in_ok-entries.entries are_bytes a1' header a2 enough body_is next_is c.in_ok-entries.ensures.exact in
    subst (λ (k : ℕ). TakesRecord c.in_ok-entries.entries bytes k c.take.new.self.place) c.fill.ensures.place taken

pub returns-clause-along : goal.returns-clause-along
returns-clause-along g c = λ tell bytes is along.
    let w1 = c.fill.new.window in
    let unread = drop w1.from w1.bytes.items in
    let a1 = c.in_ok-fill.ensures.along tell bytes is along in
    let a1' = along_at bytes unread c.args.window.now.place w1.place c.args.window.now.end w1.end (sym c.fill.ensures.place) (sym c.fill.ensures.end) a1 in
    let are_bytes : AreBytes unread = subst AreBytes c.unread.ensures.value c.header.ensures.are_bytes in
    let header = ap header_at (sym c.unread.ensures.value) ∙ c.in-Ok.ensures.value ∙ ap (λ (o : Option ℕ). Some o) c.in-Some.is in
    let w2 = c.fill-2.new.window in
    let more = drop w2.from w2.bytes.items in
    let is2 = is ∙ (λ i. reads (sym (c.in_ok-fill.ensures.story tell) i) (sym c.fill.ensures.tape i)) in
    let a2 = c.in_ok-fill-2.ensures.along tell bytes is2 a1' in
    let enough : 9 + c.in-Some.length ≤ length more = omega (arith, c.if-unread-need.false, ap length c.unread-2.ensures.value) in
    let taken = along_taken bytes w1.place w1.end more (drop c.take.new.self.from c.take.new.self.bytes.items) (9 + c.in-Some.length) c.take.new.self.place a2 enough c.take.ensures.unread (c.take.ensures.place ∙ ap (λ (k : ℕ). k + (9 + c.in-Some.length)) c.fill-2.ensures.place) in
    subst (λ (e : ℕ). IsAlong bytes (drop c.take.new.self.from c.take.new.self.bytes.items) c.take.new.self.place e) (sym (c.take.ensures.end ∙ c.fill-2.ensures.end)) taken
