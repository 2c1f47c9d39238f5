use Rattle.std.proofs.Common.{◌≡◌, ◌++◌, map}
use Rattle.std.specs.Vec.Iter.{into_iter_items, into_iter_len}
use Rattle.cad_declarations.specs.Views.{pair_of}
use Rattle.cad_typing.specs.Containers.{pair_term}
use Rattle.cad_infer_containers.specs.Views.{typings_of}
use Rattle.cad_infer_containers.proofs.terms.entries_of.Given as goal

abbrev pub invariant-loop-pair : goal.invariant-loop-pair
invariant-loop-pair l =
    map pair_of l.entries.items ++ map pair_term (map typings_of (into_iter_items l.left))
    ≡ map pair_term (map typings_of l.fn.pairs.items)

abbrev pub decreases-loop-pair : goal.decreases-loop-pair
decreases-loop-pair l = into_iter_len l.left
