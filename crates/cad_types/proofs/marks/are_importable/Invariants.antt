use Rattle.std.proofs.Common.{◌≡◌, drop, map}
use Rattle.std.specs.List.{list_all}
use Rattle.cad_syntax.specs.Types.{pure_type}
use Rattle.cad_types.specs.Code.Views.{listed}
use Rattle.cad_types.specs.Code.Judged.{importable_by}
use Rattle.cad_types.proofs.marks.are_importable.Given as goal

abbrev pub invariant-loop-t : goal.invariant-loop-t
invariant-loop-t l =
    list_all (importable_by (listed l.table) l.marks) (map pure_type (drop l.t-index l.types)) ≡ list_all (importable_by (listed l.table) l.marks) (map pure_type l.types)
