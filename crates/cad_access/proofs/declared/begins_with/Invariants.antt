use Rattle.std.proofs.Common.{◌≡◌, drop}
use Rattle.cad_world.specs.Declared.{begins_with}
use Rattle.cad_access.proofs.declared.begins_with.Given as goal

abbrev pub invariant-loop-name : goal.invariant-loop-name
invariant-loop-name l = begins_with (drop l.name-index l.front) l.rest ≡ begins_with l.front l.names
