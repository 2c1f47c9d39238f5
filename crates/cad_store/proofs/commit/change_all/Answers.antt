use Rattle.std.proofs.Common.{List, subst}
use Rattle.std.specs.Vec.Iter.{into_iter_items, into_iter_len}
use Rattle.cad_wire.specs.declared.entry.Entry.{Entry}
use Rattle.cad_accounts.specs.Registers.{at}
use Rattle.cad_accounts.specs.Room.{rows_of, HasRoom}
use Rattle.cad_accounts.proofs.Storing.{first_room}
use Rattle.cad_store.proofs.Turning.{turns_on, turns_end, fits_first, fits_rest}
use Rattle.cad_store.proofs.commit.change_all.Goals as goal

pub change-requires : goal.change-requires
change-requires c =
    let left = into_iter_items c.loop-change.change-iterator in
    let rest = into_iter_items c.next.new.self in
    let steps = c.in-Some.ensures.steps in
    record {
      room = first_room c.loop-change.registers c.in-Some.change rest (subst (λ (es : List Entry). HasRoom es c.loop-change.registers) steps.0 c.loop-change.invariant.room);
      fits = fits_first c.in-Some.change left rest steps.0 c.loop-change.invariant.fit;
    }

pub loop-change-preserved : goal.loop-change-preserved
loop-change-preserved c =
    let left = into_iter_items c.loop-change.change-iterator in
    let rest = into_iter_items c.next.new.self in
    let steps = c.in-Some.ensures.steps in
    record {
      can_next = tt;
      finite = tt;
      turns = turns_on c.args.changes (at (rows_of c.args.registers.now)) (at (rows_of c.loop-change.registers)) (at (rows_of c.change.new.self)) c.in-Some.change left rest (into_iter_len c.loop-change.change-iterator) (into_iter_len c.next.new.self) c.loop-change.invariant.turns steps.0 steps.1 c.change.ensures.is;
      room = c.change.ensures.room rest (subst (λ (es : List Entry). HasRoom es c.loop-change.registers) steps.0 c.loop-change.invariant.room);
      fit = fits_rest c.in-Some.change left rest steps.0 c.loop-change.invariant.fit;
    }

pub returns : goal.returns
returns c = turns_end c.args.changes (at (rows_of c.args.registers.now)) (at (rows_of c.loop-change.registers)) (into_iter_items c.loop-change.change-iterator) (into_iter_len c.loop-change.change-iterator) c.loop-change.invariant.turns c.in-None.ensures.steps.0
