use Rattle.std.proofs.Common.{◌≡◌, ◌+◌}
use Rattle.cad_making.specs.Code.Ends.{told_in}
use Rattle.cad_making.proofs.Passing.{AreNumbered, count_front}
use Rattle.cad_making.proofs.ends.+names.Given as goal

abbrev pub invariant-name_row-loop-i : goal.invariant-name_row-loop-i
invariant-name_row-loop-i l =
    goal.unvisited-name_row-loop-i l × AreNumbered (told_in l.state) l.next l.i l.row.items l.fn.row.items
    × (l.following ≡ l.next + count_front (told_in l.state) l.i l.fn.row.items)
