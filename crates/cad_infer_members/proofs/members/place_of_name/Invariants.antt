use Rattle.std.specs.List.{position_or_len}
use Rattle.std.proofs.Common.{◌≡◌, ◌+◌, drop}
use Rattle.cad_declarations.specs.Names.{same_name}
use Rattle.cad_infer_members.proofs.members.place_of_name.Given as goal

abbrev pub invariant-loop-place : goal.invariant-loop-place
invariant-loop-place l =
    position_or_len (same_name l.name) l.names ≡ l.place + position_or_len (same_name l.name) (drop l.place l.names)
