use Rattle.std.proofs.Common.{◌≡◌, drop, map}
use Rattle.std.specs.List.{list_all}
use Rattle.cad_syntax.specs.Types.{pure_type}
use Rattle.cad_types.specs.Views.{declarations}
use Rattle.cad_type_classes.specs.Classes.{is_of}
use Rattle.cad_type_classes.proofs.classes.has_fields.Given as goal

abbrev pub invariant-loop-t : goal.invariant-loop-t
invariant-loop-t l =
    list_all (is_of (declarations l.types) l.class l.ids) (map pure_type (drop l.t-index l.fields))
    ≡ list_all (is_of (declarations l.types) l.class l.ids) (map pure_type l.fields)
