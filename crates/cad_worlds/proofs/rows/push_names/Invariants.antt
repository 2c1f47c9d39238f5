use Rattle.std.proofs.Common.{◌≡◌, ◌++◌, drop}
use Rattle.std.specs.List.{flat_map}
use Rattle.cad_worlds.specs.Sections.{name_bytes}
use Rattle.cad_worlds.proofs.rows.push_names.Given as goal

abbrev pub invariant-loop-name : goal.invariant-loop-name
invariant-loop-name l = l.bytes.items ++ flat_map name_bytes (drop l.name-index l.names) ≡ l.fn.bytes.items ++ flat_map name_bytes l.names
