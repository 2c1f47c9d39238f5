use Rattle.std.proofs.Common.{◌≡◌, ◌++◌, map, drop}
use Rattle.cad_declarations.specs.Views.{variable_of}
use Rattle.cad_environment.specs.Views.{environment_of, local_of}
use Rattle.cad_typing.specs.Locals as spec
use Rattle.cad_statement_parts.proofs.locals.entries_of.Given as goal

abbrev pub invariant-loop-v : goal.invariant-loop-v
invariant-loop-v l =
    map variable_of l.all.items ++ map (spec.entry_of (environment_of l.env)) (map local_of (drop l.v-index l.locals))
    ≡ map (spec.entry_of (environment_of l.env)) (map local_of l.locals)
