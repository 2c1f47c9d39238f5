use Rattle.std.proofs.Common.{◌≡◌}
use Rattle.cad_syntax.specs.Types.{pure_type}
use Rattle.cad_types.specs.Optionals.{optionals}
use Rattle.cad_access.proofs.own_types.in_optionals.Given as goal

abbrev pub invariant-loop : goal.invariant-loop
invariant-loop l = pure_type l.wrapped ≡ optionals l.counter (pure_type l.fn.t)
