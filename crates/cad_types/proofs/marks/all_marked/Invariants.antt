use Rattle.std.proofs.Common.{◌≡◌, map, take}
use Rattle.cad_types.proofs.marks.all_marked.Given as goal

abbrev pub invariant-loop-declared : goal.invariant-loop-declared
invariant-loop-declared l = l.all.items ≡ map (λ d. l.marks) (take l._declared-index l.declared)
