use Rattle.std.proofs.Common.{◌≡◌, drop}
use Rattle.std.specs.List.{list_all}
use Rattle.cad_scopes.specs.Views.{scope_of}
use Rattle.cad_declarations.specs.Points as p
use Rattle.cad_tables.proofs.contract_points.case_accesses_are_there.Given as goal

abbrev pub invariant-loop-case : goal.invariant-loop-case
invariant-loop-case l =
    list_all (λ c. p.access_is_there (scope_of l.scope) c.access) (drop l.case-index l.cases) ≡ list_all (λ c. p.access_is_there (scope_of l.scope) c.access) l.cases
