use Rattle.std.specs.Prelude.{All}
use Rattle.std.specs.Vec.Iter.{into_iter_items, into_iter_len}
use Rattle.cad_wire.specs.Body.{Fits}
use Rattle.cad_accounts.specs.Registers.{at}
use Rattle.cad_accounts.specs.Room.{rows_of, HasRoom}
use Rattle.cad_store.proofs.Turning.{Turns}
use Rattle.cad_store.proofs.commit.change_all.Given as goal

abbrev pub invariant-loop-change : goal.invariant-loop-change
invariant-loop-change l = record {
  can_next : (goal.iterator-loop-change).can_next l.change-iterator;
  finite : (goal.iterator-loop-change).is_finite l.change-iterator;
  turns : Turns l.fn.changes (at (rows_of l.fn.registers)) (at (rows_of l.registers)) (into_iter_items l.change-iterator) (into_iter_len l.change-iterator);
  room : HasRoom (into_iter_items l.change-iterator) l.registers;
  fit : All Fits (into_iter_items l.change-iterator);
}
