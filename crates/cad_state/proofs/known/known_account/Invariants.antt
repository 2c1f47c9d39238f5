use Rattle.std.proofs.Common.{◌≡◌, drop}
use Rattle.cad_state.specs.Ways.{code_in}
use Rattle.cad_state.proofs.known.known_account.Given as goal

abbrev pub invariant-loop-one : goal.invariant-loop-one
invariant-loop-one l = code_in (drop l.one-index l.known) l.index ≡ code_in l.known l.index
