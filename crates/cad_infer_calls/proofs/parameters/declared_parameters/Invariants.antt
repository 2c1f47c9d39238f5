use Rattle.std.proofs.Common.{◌≡◌, ◌++◌, map, drop}
use Rattle.cad_declarations.specs.Views.{parameter_of}
use Rattle.cad_typing.specs.Calls.{declared_parameter}
use Rattle.cad_parameters.specs.Views.{parameter_view}
use Rattle.cad_infer_calls.proofs.parameters.declared_parameters.Given as goal

abbrev pub invariant-loop-parameter : goal.invariant-loop-parameter
invariant-loop-parameter l =
    map parameter_view l.all.items ++ map declared_parameter (map parameter_of (drop l.parameter-index l.parameters)) ≡ map declared_parameter (map parameter_of l.parameters)
