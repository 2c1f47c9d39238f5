use Rattle.std.proofs.Common.{◌≡◌, drop}
use Rattle.cad_declarations.specs.Imports.{begin_with}
use Rattle.cad_conform.proofs.conform.begin_with.Given as goal

abbrev pub invariant-loop-name : goal.invariant-loop-name
invariant-loop-name l = begin_with l.left (drop l.name-index l.first) ≡ begin_with l.fn.names l.fn.first
