use Rattle.std.proofs.Common.{◌≡◌, ◌+◌, drop, option_map}
use Rattle.cad_state.specs.Ways.{place_in}
use Rattle.cad_state.proofs.known.known_place.Given as goal

abbrev pub invariant-loop-n : goal.invariant-loop-n
invariant-loop-n l = option_map (λ k. l.n + k) (place_in (drop l.n l.known) l.index) ≡ place_in l.known l.index
