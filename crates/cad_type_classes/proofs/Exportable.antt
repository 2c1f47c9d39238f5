-- The exportable types, by the declared types that aren't importable.
use Rattle.std.proofs.Common.{◌≡◌, ◌∙◌, Bool, List, ap}
use Rattle.std.specs.List.{list_all}
use Rattle.cad_syntax.specs.Types.{PureType}
use Rattle.cad_syntax.specs.declared.type_id.TypeId.{TypeId}
use Rattle.cad_types.specs.Declarations.{Declaration}
use Rattle.cad_typing.specs.Types.{failing, has_importable_fields, is_exportable}
use Rattle.cad_type_classes.specs.Classes.{is_exportable_beside}

-- the declared types that aren't exportable, by those that aren't importable
abbrev pub unexportable : List Declaration → List TypeId → List TypeId
unexportable d nots = failing (λ ids x. list_all (is_exportable_beside d nots ids) x.fields) d

pub exportable_is : (d : List Declaration) (t : PureType) (b : Bool) (nots others ids : List TypeId) → nots ≡ failing (has_importable_fields d) d
    → others ≡ nots → ids ≡ unexportable d nots → b ≡ is_exportable_beside d others ids t → b ≡ is_exportable d t
exportable_is d t b nots others ids first other second told =
    told ∙ ap (λ n. is_exportable_beside d n ids t) (other ∙ first)
    ∙ ap (λ i. is_exportable_beside d (failing (has_importable_fields d) d) i t) (second ∙ ap (unexportable d) first)
