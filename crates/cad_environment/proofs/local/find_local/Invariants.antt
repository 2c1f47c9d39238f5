use Rattle.std.specs.Prelude.{find}
use Rattle.std.proofs.Common.{◌≡◌, drop, map}
use Rattle.cad_declarations.specs.Names.{same_name}
use Rattle.cad_environment.specs.Views.{local_of}
use Rattle.cad_environment.proofs.local.find_local.Given as goal

abbrev pub invariant-loop-local : goal.invariant-loop-local
invariant-loop-local l =
    find (λ v. same_name v.name l.name) (map local_of (drop l.local-index l.locals)) ≡ find (λ v. same_name v.name l.name) (map local_of l.locals)
