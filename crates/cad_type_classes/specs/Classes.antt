-- The classes of types, each by one definition of its class.
use Rattle.std.specs.Prelude.{Bool, true, false, not, ◌&&◌, ◌||◌, List, filter}
use Rattle.std.specs.List.{list_all}
use Rattle.cad_syntax.specs.Types.{PureType, optional, array, dictionary, declared}
use Rattle.cad_syntax.specs.declared.type_id.TypeId.{TypeId}
use Rattle.cad_types.specs.Classes.{is_void}
use Rattle.cad_types.specs.Declarations.{Declaration}
use Rattle.cad_typing.specs.Types.{is_storable_but, is_importable_but, is_carried_but, ids_of, failing}
use Rattle.cad_type_classes.specs.declared.classes.Class.{Class}
use Rattle.cad_type_classes.specs.declared.classes.Class.TheVariants as c

-- exportable, where some declared types aren't importable and these resources and events aren't exportable
abbrev pub is_exportable_beside : List Declaration → List TypeId → List TypeId → PureType → Bool
is_exportable_beside d unimportable ids t = is_importable_but d unimportable t || (is_void t || is_carried_but d ids t)

-- of a class, where these declared types aren't
abbrev pub is_of : List Declaration → Class → List TypeId → PureType → Bool
is_of d c.Storable ids t = is_storable_but ids t
is_of d c.Importable ids t = is_importable_but d ids t
is_of d (c.Exportable unimportable) ids t = is_exportable_beside d unimportable.now ids t

abbrev pub has_fields : List Declaration → Class → List TypeId → Declaration → Bool
has_fields d class ids x = list_all (is_of d class ids) x.fields

-- the declared types that fail, where these do
abbrev pub failing_beside : List Declaration → Class → List TypeId → List TypeId
failing_beside d class ids = ids_of (filter (λ x. not (has_fields d class ids x)) d)

abbrev pub failing_class : List Declaration → Class → List TypeId
failing_class d class = failing (has_fields d class) d

-- no declared type, and none in the parts that the classes look at
abbrev pub has_no_declared_part : PureType → Bool
has_no_declared_part (optional t) = has_no_declared_part t
has_no_declared_part (array t) = has_no_declared_part t
has_no_declared_part (dictionary key value) = has_no_declared_part key && has_no_declared_part value
has_no_declared_part (declared id) = false
has_no_declared_part _ = true
