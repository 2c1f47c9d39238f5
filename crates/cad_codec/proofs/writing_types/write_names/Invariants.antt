use Rattle.std.proofs.Common.{◌≡◌, ◌++◌, drop, length}
use Rattle.std.specs.List.{AllByRecursion, flat_map}
use Rattle.cad_codec.specs.Ranges.{NameInRange}
use Rattle.cad_codec.specs.TypeBytes.{counted, name_field}
use Rattle.cad_codec.proofs.writing_types.write_names.Given as goal

abbrev pub invariant-loop-name : goal.invariant-loop-name
invariant-loop-name l =
    (l.writer ++ flat_map name_field (drop l.name-index l.names) ≡ l.fn.writer ++ counted (length l.names) (flat_map name_field l.names))
    × (AllByRecursion NameInRange (drop l.name-index l.names) → AllByRecursion NameInRange l.names)
