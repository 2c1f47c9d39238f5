use Rattle.std.proofs.Common.{◌≡◌, ◌<◌, ◌^◌, ◌∙◌, length, List, Some, Err, sym, ap, subst}
use Rattle.std.proofs.lemmas.Result.{err_from_is_err_and}
use Rattle.cad_host.specs.declared.host.Tape.{Tape}
use Rattle.cad_host.specs.Disk.{Event, reads}
use Rattle.cad_tape.specs.Framing.{framing, Ends}
use Rattle.cad_tape.specs.Reading.{tape_reading, or_none}
use Rattle.cad_tape.specs.declared.stop.ScanStop.{ScanStop}
use Rattle.cad_store.specs.declared.place.Place.{Place}
use Rattle.cad_store.specs.declared.stops.OpenStop.TheVariants.{BadStore}
use Rattle.cad_store.specs.Opening.{in_use}
use Rattle.cad_store.specs.Stores.{IsAt}
use Rattle.cad_store.proofs.Placing.{begins}
use Rattle.cad_store.proofs.Stopping.{stop_is, damaged_of}
use Rattle.cad_store.proofs.opening.read_store.Goals as goal

pub returns-clause-holds : goal.returns-clause-holds
returns-clause-holds g c = λ tell.
    let m = g.H.Host.trace c.args.host.now in
    let tape = c.args.tape in
    let read = c.in_ok-read.read in
    let was : g.H.Host.trace c.length.new.self ≡ m = c.in_ok-length.ensures.story tell in
    let reading : tape_reading (reads m tape) ≡ Some read.records = ap (λ (n : List Event). tape_reading (reads n tape)) (sym was) ∙ c.in_ok-read.ensures.records tell in
    record {
      records = read.records;
      reading = ap (λ (t : Tape). tape_reading (reads m t)) (sym (c.requires tell)) ∙ reading;
      is = λ key. sym (c.in_ok-registers.ensures key);
    }

pub returns-clause-place : goal.returns-clause-place
returns-clause-place g c = λ tell.
    let m = g.H.Host.trace c.args.host.now in
    let tape = c.args.tape in
    let read = c.in_ok-read.read in
    let was : g.H.Host.trace c.length.new.self ≡ m = c.in_ok-length.ensures.story tell in
    let place = begins m tape c.in_ok-length.length read.ending (c.requires tell)
    (c.in_ok-length.ensures.is tell)
    (subst (λ (n : List Event). 0 < length (reads n tape) → Ends (reads n tape) (or_none (framing (reads n tape))) read.ending) was (c.in_ok-read.ensures.ends tell))
    (subst (λ (n : List Event). length (reads n tape) < 2 ^ 64) was (c.in_ok-read.ensures.fits tell)) in
    subst (λ (p : Place). IsAt m p) (sym c.next_place-place.ensures) place

pub returns-in_err-read-clause-bad : goal.returns-in_err-read-clause-bad
returns-in_err-read-clause-bad g c = λ tell bad.
    let m = g.H.Host.trace c.args.host.now in
    let tape = c.args.tape in
    let r = c.from_residual-in_err-read.result in
    let p = err_from_is_err_and r c.from_residual-in_err-read.ensures.1 in
    let stop = damaged_of c.in_err-read.field-0.0 (sym p.2 ∙ stop_is r p.0 BadStore p.1 bad) in
    let was : g.H.Host.trace c.length.new.self ≡ m = c.in_ok-length.ensures.story tell in
    let none = c.in_err-read.ensures.damaged tell (ap (λ (s : ScanStop). Err s) stop) in
    ap (λ (t : Tape). tape_reading (reads m t)) (sym (c.requires tell)) ∙ ap (λ (n : List Event). tape_reading (reads n tape)) (sym was) ∙ none
