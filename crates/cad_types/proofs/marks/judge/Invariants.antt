use Rattle.cad_types.specs.Code.Judged.{IsAtLeast}
use Rattle.cad_types.specs.Code.Views.{listed}
use Rattle.cad_types.proofs.Judging.{trues}
use Rattle.cad_types.proofs.marks.judge.Given as goal

abbrev pub invariant-loop-marks : goal.invariant-loop-marks
invariant-loop-marks l = IsAtLeast (listed l.table) l.marks.items

abbrev pub decreases-loop-marks : goal.decreases-loop-marks
decreases-loop-marks l = trues l.marks.items
