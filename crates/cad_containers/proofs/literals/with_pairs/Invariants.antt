use Rattle.std.proofs.Common.{List, [], map}
use Rattle.std.specs.Vec.Iter.{into_iter_items, into_iter_len}
use Rattle.cad_syntax.specs.Types.{pure_type}
use Rattle.cad_state.specs.Views.{state_over}
use Rattle.cad_world.specs.Rows as rows
use Rattle.cad_world.specs.State.{Account}
use Rattle.cad_containers.specs.Literals.{pure_pair}
use Rattle.cad_containers.specs.Code.Tables.{with_all, Reaches}
use Rattle.cad_containers.proofs.literals.with_pairs.Given as goal

abbrev pub invariant-loop-pair : goal.invariant-loop-pair
invariant-loop-pair l =
    (accounts : List Account) → Reaches (pure_type l.t) (state_over accounts l.state)
    (with_all (pure_type l.t) (record { keys = []; values = rows.stop }) (map pure_pair l.fn.pairs.items) (state_over accounts l.state)) l.done (map pure_pair (into_iter_items l.left))

abbrev pub decreases-loop-pair : goal.decreases-loop-pair
decreases-loop-pair l = into_iter_len l.left
