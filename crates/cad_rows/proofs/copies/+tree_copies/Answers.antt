use Rattle.std.proofs.Common.{arith, add-one}
use Rattle.cad_world.specs.Rows as r
use Rattle.cad_rows.specs.Views.{pure_row}
use Rattle.cad_rows.proofs.CopyLaws.{copies_turn, copies_end}
use Rattle.cad_rows.proofs.copies.+tree_copies.Goals as goal

pub push_copies-loop-place-preserved : goal.push_copies-loop-place-preserved
push_copies-loop-place-preserved t c =
    rw add-one (copies_turn c.args.row.now c.loop-place.place-index c.place-item.result c.in_ok-copy.copy (pure_row c.loop-place.copies.items) (pure_row c.push_place.new.row.items) (r.join (pure_row c.args.copies.now.items) (r.bare (pure_row c.args.row.now))) c.loop-place-test.true c.place-item.is c.loop-place.invariant c.in_ok-copy.ensures c.in_ok-push_place.ensures)

pub push_copies-returns : goal.push_copies-returns
push_copies-returns t c = copies_end c.args.row.now c.loop-place.place-index (pure_row c.loop-place.copies.items) (r.join (pure_row c.args.copies.now.items) (r.bare (pure_row c.args.row.now))) (omega arith) c.loop-place.invariant
