use Rattle.std.proofs.Common.{◌≤◌, length, map, drop, Bor}
use Rattle.std.specs.HashMap.{get}
use Rattle.cad_syntax.specs.TypeIds.{same_id}
use Rattle.cad_syntax.specs.declared.type_id.TypeId.{TypeId}
use Rattle.cad_types.proofs.Placed.{ArePlacedFrom}
use Rattle.cad_types.proofs.places.places_of.Given as goal

abbrev pub invariant-loop-left : goal.invariant-loop-left
invariant-loop-left l = record {
  within : l.left ≤ length l.ids;
  placed : ArePlacedFrom (get same_id l.places) l.left (map (λ (id : Bor TypeId). id.now) (drop l.left l.ids));
}

abbrev pub decreases-loop-left : goal.decreases-loop-left
decreases-loop-left l = l.left
