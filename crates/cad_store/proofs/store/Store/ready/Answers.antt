use Rattle.cad_store.specs.Stores.{rows_in, room_of}
use Rattle.cad_store.proofs.Balance.{over, under}
use Rattle.cad_store.proofs.store.Store.ready.Goals as goal

pub returns-in-Some-false-clause-full : goal.returns-in-Some-false-clause-full
returns-in-Some-false-clause-full c = λ full rows rises same.
    over c.in-Some-false.field-0 c.args.changes c.as_slice.result.now rows (rows_in c.args.self.now) (room_of c.args.self.now) c.in-Some-false.field-0-test c.as_slice.ensures c.in-Some-false.ensures c.requires.1.ascending c.args.self.now.registers.ascending rises same

pub returns-in-Ok-reserve-clause-fits : goal.returns-in-Ok-reserve-clause-fits
returns-in-Ok-reserve-clause-fits c = λ rows rises same.
    under c.in-Some-true.field-0 c.args.changes c.as_slice.result.now rows (rows_in c.args.self.now) (room_of c.args.self.now) c.in-Some-true.field-0-test c.as_slice.ensures c.in-Some-true.ensures c.requires.1.ascending c.args.self.now.registers.ascending rises same
