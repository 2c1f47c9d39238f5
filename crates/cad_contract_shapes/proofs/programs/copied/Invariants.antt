use Rattle.std.proofs.Common.{◌≡◌, ◌++◌, drop}
use Rattle.cad_contract_shapes.proofs.programs.copied.Given as goal

abbrev pub invariant-loop-id : goal.invariant-loop-id
invariant-loop-id l = l.copies ++ drop l.id-index l.ids ≡ l.ids
