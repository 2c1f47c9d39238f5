use Rattle.std.proofs.Common.{◌≡◌, map, drop}
use Rattle.std.specs.List.{list_any}
use Rattle.cad_declarations.specs.Names.{same_name}
use Rattle.cad_environment.specs.Views.{local_of}
use Rattle.cad_statement_parts.proofs.locals.has_name.Given as goal

abbrev pub invariant-loop-v : goal.invariant-loop-v
invariant-loop-v l =
    list_any (λ v. same_name v.name l.name) (map local_of (drop l.v-index l.locals)) ≡ list_any (λ v. same_name v.name l.name) (map local_of l.locals)
