use Rattle.cad_world_registers.specs.Code.PartDrafts.{HasNoneBefore}
use Rattle.cad_world_registers.proofs.part_draft.place_of.Given as goal

abbrev pub invariant-loop-i : goal.invariant-loop-i
invariant-loop-i l = HasNoneBefore l.address l.known l.i
