use Rattle.std.proofs.Common.{◌≡◌, drop}
use Rattle.cad_typing.specs.Access.{is_front}
use Rattle.cad_environment.proofs.access.is_front.Given as goal

abbrev pub invariant-loop-name : goal.invariant-loop-name
invariant-loop-name l = is_front (drop l.name-index l.front) l.rest ≡ is_front l.front l.names
