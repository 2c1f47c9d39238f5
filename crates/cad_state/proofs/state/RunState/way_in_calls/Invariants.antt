use Rattle.std.proofs.Common.{◌≡◌, ◌≤◌, map, reverse, drop, length, None}
use Rattle.cad_world.specs.Labels as spec
use Rattle.cad_state.specs.Views.{frame_of}
use Rattle.cad_state.proofs.state.RunState.way_in_calls.Given as goal

abbrev pub invariant-loop-i : goal.invariant-loop-i
invariant-loop-i l = (spec.found_in_frames l.label (reverse (map frame_of (drop l.i l.self.calls.items))) ≡ None) × (l.i ≤ length l.self.calls.items)

abbrev pub decreases-loop-i : goal.decreases-loop-i
decreases-loop-i l = l.i
