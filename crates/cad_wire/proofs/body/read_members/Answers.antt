use Rattle.std.proofs.Common.{◌≡◌, ◌++◌, ◌∷◌, []}
use Rattle.std.proofs.lemmas.Result.{err_from_is_err_and}
use Rattle.cad_wire.specs.Reading.{entries_at}
use Rattle.cad_wire.proofs.Members.{goes_on, ends, is_done}
use Rattle.cad_wire.proofs.body.read_members.Goals as goal

pub returns-in_err-entry : goal.returns-in_err-entry
returns-in_err-entry c =
    let p = err_from_is_err_and c.from_residual.result c.from_residual.ensures.1 in
    rw (p.1, p.2) (ends c.in_err-entry.field-0.0 c.loop.entries c.args.count c.loop.counter c.loop.reader c.read_entry.new.reader c.read_entry.new.reader (entries_at c.args.count c.args.reader.now) c.loop-test.true c.in_err-entry.ensures c.loop.invariant)

pub loop-preserved : goal.loop-preserved
loop-preserved c =
    let e = c.in_ok-entry.entry in
    let pushed : c.push.new.self ≡ c.loop.entries ++ e ∷ [] = c.in_ok-push.ensures.ok in
    rw pushed (goes_on c.loop.entries c.args.count c.loop.counter c.loop.reader e c.read_entry.new.reader (entries_at c.args.count c.args.reader.now) c.loop-test.true c.in_ok-entry.ensures c.loop.invariant)

pub returns : goal.returns
returns c = is_done c.loop.entries c.args.count c.loop.counter c.loop.reader (entries_at c.args.count c.args.reader.now) c.loop-test.false c.loop.invariant
