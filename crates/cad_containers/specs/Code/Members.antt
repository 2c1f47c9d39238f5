-- The members of arrays and dictionaries, told apart.
use Rattle.std.specs.Prelude.{◌≡◌, ℕ, List, length}
use Rattle.cad_syntax.specs.Types.{PureType}
use Rattle.cad_types.specs.declared.builtin.Builtin.{Builtin}
use Rattle.cad_types.specs.declared.builtin.Builtin.TheVariants as m
use Rattle.cad_values.specs.Values.{PureValue}
use Rattle.cad_world.specs.Receivers.{Spot}
use Rattle.cad_world.specs.Rows.{Row, Tree, count_places}
use Rattle.cad_world.specs.State.{Action, stuck}
use Rattle.cad_evaluation.specs.Arguments.{with_argument, with_arguments}
use Rattle.cad_evaluation.specs.Builtins.{on_array, on_array_at, on_dictionary, on_dictionary_at, plain_member}
use Rattle.cad_evaluation.specs.Containers.{array_concat, array_contains, array_first_index, array_slice, array_reverse, array_append, array_append_all, array_insert, array_remove, array_remove_first, array_remove_last, dictionary_keys, contains_key, dictionary_insert, dictionary_remove, array_copy}
use Rattle.cad_evaluation.specs.Texts.{given_int}
use Rattle.cad_containers.specs.declared.members.Kind.{Kind}
use Rattle.cad_containers.specs.declared.members.Kind.TheVariants as kind

-- what is read of an array, over its arguments
abbrev pub array_read : Builtin → Row → PureType → Row → Action Tree
array_read m.ArrayLength r type parts = given_int (count_places parts)
array_read m.ArrayContains r type parts = with_argument r (array_contains parts)
array_read m.ArrayFirstIndex r type parts = with_argument r (array_first_index parts)
array_read m.ArraySlice r type parts = with_arguments r (array_slice type parts)
array_read m.ArrayReverse r type parts = array_reverse type parts
array_read _ r type parts = stuck

-- how an array is changed
abbrev pub array_change : Builtin → Row → ℕ → PureType → Row → Action Tree
array_change m.ArrayAppend r l type parts = with_argument r (array_append l type parts)
array_change m.ArrayAppendAll r l type parts = with_argument r (array_append_all l type parts)
array_change m.ArrayInsert r l type parts = with_arguments r (array_insert l type parts)
array_change m.ArrayRemove r l type parts = with_argument r (array_remove l type parts)
array_change m.ArrayRemoveFirst r l type parts = array_remove_first l type parts
array_change m.ArrayRemoveLast r l type parts = array_remove_last l type parts
array_change _ r l type parts = stuck

-- what is read of a dictionary
abbrev pub dictionary_read : Builtin → Row → PureType → PureType → List PureValue → Row → Action Tree
dictionary_read m.DictionaryLength r key value ks parts = given_int (length ks)
dictionary_read m.DictionaryKeys r key value ks parts = dictionary_keys key ks
dictionary_read m.DictionaryValues r key value ks parts = array_copy value parts
dictionary_read m.DictionaryContainsKey r key value ks parts = with_argument r (contains_key ks)
dictionary_read _ r key value ks parts = stuck

-- how a dictionary is changed
abbrev pub dictionary_change : Builtin → Row → ℕ → PureType → PureType → List PureValue → Row → Action Tree
dictionary_change m.DictionaryInsert r l key value ks parts = with_arguments r (dictionary_insert l key value ks parts)
dictionary_change m.DictionaryRemove r l key value ks parts = with_argument r (dictionary_remove l key value ks parts)
dictionary_change _ r l key value ks parts = stuck

-- ---- which members there are

-- what a member of this kind does
abbrev pub IsKind : Builtin → Kind → Type 0
IsKind b kind.ArrayRead = (spot : Spot) (r : Row) → plain_member b spot r ≡ on_array spot (array_read b r)
IsKind b kind.ArrayConcat = (spot : Spot) (r : Row) → plain_member b spot r ≡ on_array spot (λ type parts. with_argument r (array_concat type parts))
IsKind b kind.ArrayChange = (spot : Spot) (r : Row) → plain_member b spot r ≡ on_array_at spot (array_change b r)
IsKind b kind.DictionaryRead = (spot : Spot) (r : Row) → plain_member b spot r ≡ on_dictionary spot (dictionary_read b r)
IsKind b kind.DictionaryChange = (spot : Spot) (r : Row) → plain_member b spot r ≡ on_dictionary_at spot (dictionary_change b r)
IsKind b kind.Other = Unit {0}
