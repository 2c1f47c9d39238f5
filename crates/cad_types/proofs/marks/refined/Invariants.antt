use Rattle.std.proofs.Common.{◌≡◌, ◌++◌, drop, map}
use Rattle.cad_types.specs.Declarations.{declaration_of}
use Rattle.cad_types.specs.Code.Views.{listed}
use Rattle.cad_types.specs.Code.Judged.{kept, each_kept, refined}
use Rattle.cad_types.proofs.marks.refined.Given as goal

abbrev pub invariant-loop-i : goal.invariant-loop-i
invariant-loop-i l =
    l.next.items ++ each_kept (kept (listed l.table) l.marks) (map declaration_of (drop l.i l.declared)) (drop l.i l.marks) ≡ refined (listed l.table) l.marks
