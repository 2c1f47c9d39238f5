use Rattle.cad_types.specs.Code.Judged.{IsAtLeast}
use Rattle.cad_types.specs.Code.Views.{listed}
use Rattle.cad_types.proofs.settle.settle.Given as goal

abbrev pub invariant-loop : goal.invariant-loop
invariant-loop l = IsAtLeast (listed l.table) l.marks.items
