use Rattle.std.proofs.Common.{◌≡◌, ◌++◌, map, drop}
use Rattle.cad_entries.proofs.types.case_names.Given as goal

abbrev pub invariant-loop-case : goal.invariant-loop-case
invariant-loop-case l =
    l.all ++ map (λ c. c.name) (drop l.case-index l.cases) ≡ map (λ c. c.name) l.cases
