use Rattle.std.proofs.Common.{◌≡◌, ◌++◌, map}
use Rattle.std.specs.Vec.Iter.{into_iter_items, into_iter_len}
use Rattle.cad_declarations.specs.Views.{term_of}
use Rattle.cad_environment.specs.Views.{typing_of}
use Rattle.cad_infer_containers.proofs.terms.terms_of.Given as goal

abbrev pub invariant-loop-x : goal.invariant-loop-x
invariant-loop-x l =
    map term_of l.terms.items ++ map (λ x. x.term) (map typing_of (into_iter_items l.left))
    ≡ map (λ x. x.term) (map typing_of l.fn.xs.items)

abbrev pub decreases-loop-x : goal.decreases-loop-x
decreases-loop-x l = into_iter_len l.left
