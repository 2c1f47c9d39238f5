use Rattle.std.proofs.Common.{◌≡◌, ◌++◌, map, drop}
use Rattle.cad_declarations.specs.Views.{parameter_of}
use Rattle.cad_contracts.proofs.copies.copied_parameters.Given as goal

abbrev pub invariant-loop-p : goal.invariant-loop-p
invariant-loop-p l =
    map parameter_of l.copies.items ++ map parameter_of (drop l.p-index l.all) ≡ map parameter_of l.all
