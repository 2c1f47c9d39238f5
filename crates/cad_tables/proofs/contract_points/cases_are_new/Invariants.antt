use Rattle.std.proofs.Common.{◌≡◌, map, drop, reverse, []}
use Rattle.cad_declarations.specs.Points as p
use Rattle.cad_tables.proofs.contract_points.cases_are_new.Given as goal

abbrev pub invariant-loop-case : goal.invariant-loop-case
invariant-loop-case l =
    p.are_new (reverse l.before) (map (λ c. c.name) (drop l.case-index l.cases)) ≡ p.are_new [] (map (λ c. c.name) l.cases)
