-- The tables of built-in members by parts.
use Rattle.std.specs.Prelude.{Option, List, [], ◌∷◌, codes, if◌then◌else◌}
use Rattle.std.specs.Option.{option_or}
use Rattle.cad_syntax.specs.Types.{PureType}
use Rattle.cad_syntax.specs.declared.text.Name.{Name}
use Rattle.cad_syntax.specs.declared.kind.Kind.{Kind}
use Rattle.cad_syntax.specs.declared.kind.Kind.TheVariants as k
use Rattle.cad_types.specs.Declarations.{Declaration, resource}
use Rattle.cad_types.specs.declared.builtin.Builtin.{Builtin}
use Rattle.cad_types.specs.declared.builtin.Builtin.TheVariants as m
use Rattle.cad_declarations.specs.BuiltinNames.{MemberName, member_named, member_among, own_members, any_members, copying_array_members, comparing_array_members, address_members, is_comparable, is_sized, saturating_members}

abbrev pub all_array_members : List MemberName
all_array_members =
    member_named (codes "length") m.ArrayLength ∷ member_named (codes "append") m.ArrayAppend
    ∷ member_named (codes "insert") m.ArrayInsert ∷ member_named (codes "remove") m.ArrayRemove
    ∷ member_named (codes "removeFirst") m.ArrayRemoveFirst ∷ member_named (codes "removeLast") m.ArrayRemoveLast ∷ []

abbrev pub copying_if : List Declaration → PureType → List MemberName
copying_if d element = if resource d element then [] else copying_array_members

abbrev pub comparing_if : List Declaration → PureType → List MemberName
comparing_if d element = if is_comparable d element then comparing_array_members else []

abbrev pub array_by_parts : List Declaration → PureType → Name → Option Builtin
array_by_parts d element name =
    option_or (member_among all_array_members name)
    (option_or (member_among (copying_if d element) name) (member_among (comparing_if d element) name))

abbrev pub all_dictionary_members : List MemberName
all_dictionary_members =
    member_named (codes "length") m.DictionaryLength ∷ member_named (codes "keys") m.DictionaryKeys
    ∷ member_named (codes "containsKey") m.DictionaryContainsKey ∷ member_named (codes "insert") m.DictionaryInsert
    ∷ member_named (codes "remove") m.DictionaryRemove ∷ []

abbrev pub values_if : List Declaration → PureType → List MemberName
values_if d value = if resource d value then [] else member_named (codes "values") m.DictionaryValues ∷ []

abbrev pub dictionary_by_parts : List Declaration → PureType → Name → Option Builtin
dictionary_by_parts d value name = option_or (member_among all_dictionary_members name) (member_among (values_if d value) name)

abbrev pub all_number_members : List MemberName
all_number_members = member_named (codes "toString") m.NumberToString ∷ []

abbrev pub sized_members : List MemberName
sized_members = member_named (codes "toBigEndianBytes") m.NumberToBigEndianBytes ∷ []

abbrev pub bytes_if : Kind → List MemberName
bytes_if kind = if is_sized kind then sized_members else []

abbrev pub number_by_parts : Kind → Name → Option Builtin
number_by_parts kind name =
    option_or (member_among all_number_members name)
    (option_or (member_among (bytes_if kind) name) (member_among (saturating_members kind) name))

abbrev pub builtin_by_parts : List Declaration → PureType → Name → Option Builtin
builtin_by_parts d t name = option_or (member_among (own_members d t) name) (member_among any_members name)

-- those of addresses are others
abbrev pub numbered : Kind → Name → Option Builtin
numbered k.Address name = member_among address_members name
numbered kind name = number_by_parts kind name
