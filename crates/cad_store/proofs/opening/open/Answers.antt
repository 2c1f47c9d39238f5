use Rattle.std.proofs.Common.{rules, ◌≡◌, ◌∙◌, Ok, Err, sym, ap, subst}
use Rattle.std.proofs.lemmas.Result.{err_from_is_err_and}
use Rattle.cad_host.specs.Disk.{reads}
use Rattle.cad_store.specs.declared.stops.OpenStop.{OpenStop}
use Rattle.cad_store.specs.declared.stops.OpenStop.TheVariants.{BadStore}
use Rattle.cad_store.specs.declared.store.Store.{Store}
use Rattle.cad_store.specs.Stores.{DiskHolds, held, IsAt, IsOn}
use Rattle.cad_store.specs.Opening.{opened, at_pick}
use Rattle.cad_store.proofs.Stopping.{stop_is, none_held, refused}
use Rattle.cad_store.proofs.Beginning.{at_opened, holds_opened, quiet_opened, open_ran, open_broke, opens_moments, reads_opens, reads_looked, sync_broke, both_synced}
use Rattle.cad_store.proofs.opening.open.Goals as goal

pub returns-in_err-tape-clause-moments : goal.returns-in_err-tape-clause-moments
returns-in_err-tape-clause-moments g c = λ tell.
    open_broke (g.H.Host.trace c.args.host.now) (g.met.H.Host.settled c.args.host.now tell) (g.H.Host.trace c.tape_in_use.new.host) (at_pick (c.in_err-tape.ensures.story tell))

pub returns-in_err-store-clause-moments : goal.returns-in_err-store-clause-moments
returns-in_err-store-clause-moments g c = λ tell.
    let m = g.H.Host.trace c.args.host.now in
    let new = g.H.Host.trace c.read_store.new.host in
    opens_moments {T = Store} (Err c.in_err-store.field-0.0) m new (g.met.H.Host.settled c.args.host.now tell)
    (reads_opens Store Store c.in_err-store.field-0.0 m (g.H.Host.trace c.tape_in_use.new.host) new (c.in_ok-tape.ensures.story tell) (c.in_err-store.ensures.story tell))

pub returns-in_err-store-clause-looked : goal.returns-in_err-store-clause-looked
returns-in_err-store-clause-looked g c = λ tell bad.
    reads_looked Store c.in_err-store.field-0.0 (g.H.Host.trace c.args.host.now) (g.H.Host.trace c.tape_in_use.new.host) (g.H.Host.trace c.read_store.new.host) (c.in_ok-tape.ensures.story tell) (c.in_err-store.ensures.story tell)

pub returns-in_err-store-clause-bad : goal.returns-in_err-store-clause-bad
returns-in_err-store-clause-bad g c = λ tell bad m holds good.
    let r = c.from_residual-in_err-store.result in
    let p = err_from_is_err_and r c.from_residual-in_err-store.ensures.1 in
    let stop = sym p.2 ∙ stop_is r p.0 BadStore p.1 bad in
    let none = c.in_err-store.ensures.bad tell (ap (λ (s : OpenStop). Err s) stop) in
    none_held (reads (g.H.Host.trace c.tape_in_use.new.host)) m none (subst (λ n. DiskHolds (reads n) m) (sym (c.in_ok-tape.ensures.story tell)) holds)

pub returns-then-not-branch-clause-bad : goal.returns-then-not-branch-clause-bad
returns-then-not-branch-clause-bad g c = λ tell bad m holds good.
    let store = c.in_ok-store.store in
    let held_there = subst (λ n. DiskHolds (reads n) (held store)) (c.in_ok-tape.ensures.story tell) (c.in_ok-store.ensures.holds tell) in
    refused (g.J.Judge.accepts c.args.judge.now) (reads (g.H.Host.trace c.args.host.now)) c.in_ok-is_good.field-0 m (held store) held_there c.in_ok-is_good.ensures c.if-not-branch.true holds good

pub returns-in_err-sync_both-clause-moments : goal.returns-in_err-sync_both-clause-moments
returns-in_err-sync_both-clause-moments g c = λ tell.
    let m = g.H.Host.trace c.args.host.now in
    let mid = g.H.Host.trace c.read_store.new.host in
    let new = g.H.Host.trace c.sync_both.new.host in
    let same : mid ≡ m = c.in_ok-store.ensures.story tell ∙ c.in_ok-tape.ensures.story tell in
    open_broke m (g.met.H.Host.settled c.args.host.now tell) new (sync_broke m mid new c.in_ok-tape.tape same (c.in_ok-tape.ensures.is tell) (c.in_err-sync_both.ensures.story tell))

pub returns-clause-moments : goal.returns-clause-moments
returns-clause-moments g c = λ tell.
    let m = g.H.Host.trace c.args.host.now in
    let mid = g.H.Host.trace c.read_store.new.host in
    let new = g.H.Host.trace c.sync_both.new.host in
    let same : mid ≡ m = c.in_ok-store.ensures.story tell ∙ c.in_ok-tape.ensures.story tell in
    let is : new ≡ opened m = both_synced m mid new c.in_ok-tape.tape same (c.in_ok-tape.ensures.is tell) (c.in_ok-sync_both.ensures.story tell) in
    opens_moments {T = Store} (Ok c.in_ok-store.store) m new (g.met.H.Host.settled c.args.host.now tell) is

pub returns-clause-on : goal.returns-clause-on
returns-clause-on g c = λ tell.
    let m = g.H.Host.trace c.args.host.now in
    let mid = g.H.Host.trace c.read_store.new.host in
    let new = g.H.Host.trace c.sync_both.new.host in
    let store = c.in_ok-store.store in
    let early = c.in_ok-tape.ensures.story tell in
    let same : mid ≡ m = c.in_ok-store.ensures.story tell ∙ early in
    let is : new ≡ opened m = both_synced m mid new c.in_ok-tape.tape same (c.in_ok-tape.ensures.is tell) (c.in_ok-sync_both.ensures.story tell) in
    let holds = subst (λ n. DiskHolds (reads n) (held store)) early (c.in_ok-store.ensures.holds tell) in
    let place = subst (λ n. IsAt n store.place) early (c.in_ok-store.ensures.place tell) in
    subst (λ n. IsOn n store) (sym is) (record { holds = holds_opened m (held store) holds; place = at_opened m store.place place; quiet = quiet_opened m })

pub returns-in_err-sync_both-clause-looked : goal.returns-in_err-sync_both-clause-looked
returns-in_err-sync_both-clause-looked g c = λ tell bad.
    let store = c.in_ok-store.store in
    let holds = subst (λ n. DiskHolds (reads n) (held store)) (c.in_ok-tape.ensures.story tell) (c.in_ok-store.ensures.holds tell) in
    absurd (bad (held store) holds (c.in_ok-is_good.ensures.0 (search rules)))

pub returns-clause-looked : goal.returns-clause-looked
returns-clause-looked g c = λ tell bad.
    let store = c.in_ok-store.store in
    let holds = subst (λ n. DiskHolds (reads n) (held store)) (c.in_ok-tape.ensures.story tell) (c.in_ok-store.ensures.holds tell) in
    absurd (bad (held store) holds (c.in_ok-is_good.ensures.0 (search rules)))
