use Rattle.std.proofs.Common.{◌∙◌, List, ap}
use Rattle.cad_wire.specs.declared.entry.Entry.{Entry}
use Rattle.cad_wire.specs.Body.{body_bytes}
use Rattle.cad_accounts.specs.Registers.{at, applied}
use Rattle.cad_accounts.specs.Room.{rows_of}
use Rattle.cad_store.specs.Stores.{held, IsOut, BreaksRecord}
use Rattle.cad_store.proofs.Holding.{keeps, holds_new}
use Rattle.cad_store.proofs.Placing.{whole_at, told_err}
use Rattle.cad_store.proofs.store.Store.commit.Goals as goal

pub write_record-requires-clause-form : goal.write_record-requires-clause-form
write_record-requires-clause-form g c = (body_bytes c.requires.out.0, c.as_slice.ensures ∙ c.requires.out.1.bytes_are)

pub returns-in_err-next-clause-moments : goal.returns-in_err-next-clause-moments
returns-in_err-next-clause-moments g c = λ tell changes out.
    keeps (g.H.Host.trace c.args.host.now) (g.H.Host.trace c.write_record.new.host) (held c.args.self.now) changes (c.requires.on tell).holds out.form
    (c.write_record.ensures.moments tell (c.requires.on tell).quiet (body_bytes changes) (c.as_slice.ensures ∙ out.bytes_are))

pub returns-clause-moments : goal.returns-clause-moments
returns-clause-moments g c = λ tell changes out.
    keeps (g.H.Host.trace c.args.host.now) (g.H.Host.trace c.write_record.new.host) (held c.args.self.now) changes (c.requires.on tell).holds out.form
    (c.write_record.ensures.moments tell (c.requires.on tell).quiet (body_bytes changes) (c.as_slice.ensures ∙ out.bytes_are))

pub returns-clause-ok : goal.returns-clause-ok
returns-clause-ok g c = λ changes out key. c.change_all.ensures key ∙ ap (λ (es : List Entry). applied es (held c.args.self.now) key) out.changes_are

pub returns-clause-on : goal.returns-clause-on
returns-clause-on g c = λ tell.
    let old = g.H.Host.trace c.args.host.now in
    let new = g.H.Host.trace c.write_record.new.host in
    let out = c.requires.out in
    let both = c.in_ok-next.ensures.ok tell (body_bytes out.0) (c.as_slice.ensures ∙ out.1.bytes_are) in
    record {
      holds = holds_new old new (held c.args.self.now) (at (rows_of c.change_all.new.registers)) out.0 (c.requires.on tell).holds out.1.form (whole_at new c.in_ok-next.next both.0) both.1
          (λ key. c.change_all.ensures key ∙ ap (λ (es : List Entry). applied es (held c.args.self.now) key) out.1.changes_are);
      place = both.0;
      quiet = c.in_ok-next.ensures.quiet tell (c.requires.on tell).quiet;
    }

pub returns-clause-order : goal.returns-clause-order
returns-clause-order g c = λ tell changes out. c.in_ok-next.ensures.order tell (body_bytes changes) (c.as_slice.ensures ∙ out.bytes_are)

pub returns-in_err-next-clause-breaks : goal.returns-in_err-next-clause-breaks
returns-in_err-next-clause-breaks g c =
    told_err c.from_residual.result (g.H.Host.tells → (changes : List Entry) → IsOut c.args.self.now c.args.commit changes → BreaksRecord (body_bytes changes) (g.H.Host.trace c.args.host.now) (g.H.Host.trace c.write_record.new.host))
    (λ tell changes out. c.in_err-next.ensures.breaks tell (body_bytes changes) (c.as_slice.ensures ∙ out.bytes_are))
