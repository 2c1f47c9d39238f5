use Rattle.std.proofs.Common.{◌≡◌, ◌++◌, drop, length}
use Rattle.std.specs.List.{AllByRecursion, flat_map}
use Rattle.cad_codec.specs.Ranges.{IdInRange}
use Rattle.cad_codec.specs.TypeBytes.{counted, id_bytes}
use Rattle.cad_codec.proofs.writing_types.write_ids.Given as goal

abbrev pub invariant-loop-id : goal.invariant-loop-id
invariant-loop-id l =
    (l.writer ++ flat_map id_bytes (drop l.id-index l.ids) ≡ l.fn.writer ++ counted (length l.ids) (flat_map id_bytes l.ids))
    × (AllByRecursion IdInRange (drop l.id-index l.ids) → AllByRecursion IdInRange l.ids)
