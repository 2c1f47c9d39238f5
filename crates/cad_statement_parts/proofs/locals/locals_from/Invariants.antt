use Rattle.std.proofs.Common.{◌≡◌, ◌++◌, map, drop}
use Rattle.cad_declarations.specs.Views.{parameter_of}
use Rattle.cad_environment.specs.Views.{local_of}
use Rattle.cad_typing.specs.Locals as spec
use Rattle.cad_statement_parts.proofs.locals.locals_from.Given as goal

abbrev pub invariant-loop-parameter : goal.invariant-loop-parameter
invariant-loop-parameter l =
    map local_of l.all.items ++ spec.locals_from l.next (map parameter_of (drop l.parameter-index l.parameters))
    ≡ spec.locals_from l.fn.number (map parameter_of l.parameters)
