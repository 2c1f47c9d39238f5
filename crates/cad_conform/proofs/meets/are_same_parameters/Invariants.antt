use Rattle.std.proofs.Common.{◌↔◌, length, map}
use Rattle.cad_declarations.specs.Meets.{SameParameters}
use Rattle.cad_declarations.specs.Views.{parameter_of}
use Rattle.cad_conform.proofs.meets.are_same_parameters.Given as goal

abbrev pub invariant-loop-a : goal.invariant-loop-a
invariant-loop-a l = SameParameters (map parameter_of l.a) (map parameter_of l.b) ↔ SameParameters (map parameter_of l.fn.own) (map parameter_of l.fn.asked)

abbrev pub decreases-loop-a : goal.decreases-loop-a
decreases-loop-a l = length l.a
