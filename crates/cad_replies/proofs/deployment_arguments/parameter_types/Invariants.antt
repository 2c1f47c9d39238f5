use Rattle.std.proofs.Common.{◌≡◌, ◌++◌, drop, map}
use Rattle.cad_syntax.specs.Types.{pure_type}
use Rattle.cad_replies.proofs.deployment_arguments.parameter_types.Given as goal

abbrev pub invariant-loop-parameter : goal.invariant-loop-parameter
invariant-loop-parameter l =
    map (λ t. pure_type t.now) l.types.items ++ map (λ p. pure_type p.declared) (drop l.parameter-index l.parameters) ≡ map (λ p. pure_type p.declared) l.parameters
