use Rattle.std.proofs.Common.{◌≡◌, ◌++◌, reverse}
use Rattle.cad_declarations.proofs.link.push_reversed.Given as goal

abbrev pub invariant-loop-id : goal.invariant-loop-id
invariant-loop-id l = l.ids.items ++ reverse l.id-iterator.iter.rest.now ≡ l.initial.ids.items ++ reverse l.more
