-- Which types are rightly formed, and the type of an annotation.
use Rattle.std.specs.Prelude.{Bool, true, false, ◌&&◌, not, Option, Some, None, List, option_and_then, if◌then◌else◌}
use Rattle.std.specs.List.{list_any, list_all}
use Rattle.cad_syntax.specs.Types.{PureType, basic, optional, array, dictionary, intersection, declared, reference, capability, capability_of}
use Rattle.cad_syntax.specs.declared.type_id.TypeId.{TypeId}
use Rattle.cad_syntax.specs.declared.types.Basic.{Basic}
use Rattle.cad_syntax.specs.declared.types.Basic.TheVariants as b
use Rattle.cad_grammar.specs.Trees as t
use Rattle.cad_types.specs.Classes.{has_sort}
use Rattle.cad_types.specs.Declarations.{Declaration, found, is_resource_id, resource}
use Rattle.cad_types.specs.declared.declared.Sort.{Sort}
use Rattle.cad_types.specs.declared.declared.Sort.TheVariants as s
use Rattle.cad_declarations.specs.Scopes.{Scope, Meaning, capability_meaning, meaning, resolved_type}

abbrev pub is_enum_sort : Sort → Bool
is_enum_sort s.Enum = true
is_enum_sort _ = false

abbrev pub is_key_basic : Basic → Bool
is_key_basic (b.Number kind) = true
is_key_basic b.Bool = true
is_key_basic b.Character = true
is_key_basic b.String = true
is_key_basic b.Path = true
is_key_basic b.StoragePath = true
is_key_basic b.PublicPath = true
is_key_basic b.Meta = true
is_key_basic _ = false

-- what keys of a dictionary may be: texts, numbers, Bool, addresses, paths, types and enums
abbrev pub is_key_type : List Declaration → PureType → Bool
is_key_type k (basic t) = is_key_basic t
is_key_type k (declared id) = has_sort is_enum_sort (found k id)
is_key_type k _ = false

abbrev pub is_reference : PureType → Bool
is_reference (reference a t) = true
is_reference _ = false

abbrev pub same_truth : Bool → Bool → Bool
same_truth true b = b
same_truth false b = not b

-- all of these interfaces are of resources, or none is
abbrev pub is_one_sort : List Declaration → List TypeId → Bool
is_one_sort k ids = list_all (λ id. same_truth (list_any (is_resource_id k) ids) (is_resource_id k id)) ids

-- each dictionary has a type of keys, a capability lends a reference, and an intersection is of structs or of resources
abbrev pub is_formed : List Declaration → PureType → Bool
is_formed k (basic t) = true
is_formed k (optional t) = is_formed k t
is_formed k (array t) = is_formed k t
is_formed k (dictionary key value) = is_key_type k key && (is_formed k key && is_formed k value)
is_formed k (intersection ids) = is_one_sort k ids
is_formed k (declared id) = true
is_formed k (reference a t) = is_formed k t
is_formed k capability = true
is_formed k (capability_of t) = is_reference t && is_formed k t

-- one type argument without `@`, or none
abbrev pub is_argument_of_capability : t.Annotations → Bool
is_argument_of_capability t.no_annotations = true
is_argument_of_capability (t.annotations is_resource written t.no_annotations) = not is_resource
is_argument_of_capability (t.annotations is_resource written (t.annotations other_is_resource other more)) = false

abbrev pub has_no_annotations : t.Annotations → Bool
has_no_annotations t.no_annotations = true
has_no_annotations (t.annotations is_resource written more) = false

-- `Capability` alone has type arguments
abbrev pub may_have_arguments : Option Meaning → t.Annotations → Bool
may_have_arguments (Some capability_meaning) arguments = is_argument_of_capability arguments
may_have_arguments _ arguments = has_no_annotations arguments

abbrev mutual
  -- the type arguments of a written type are as many as its names take
  pub has_right_arguments : Scope → t.TypeTree → Bool
  has_right_arguments scope (t.named names arguments) = may_have_arguments (meaning scope names) arguments && have_right_arguments scope arguments
  has_right_arguments scope (t.reference entitlements target) = has_right_arguments scope target
  has_right_arguments scope (t.array element) = has_right_arguments scope element
  has_right_arguments scope (t.dictionary key value) = has_right_arguments scope key && has_right_arguments scope value
  has_right_arguments scope (t.intersection interfaces) = true
  has_right_arguments scope (t.optional content) = has_right_arguments scope content

  pub have_right_arguments : Scope → t.Annotations → Bool
  have_right_arguments scope t.no_annotations = true
  have_right_arguments scope (t.annotations is_resource written more) = has_right_arguments scope written && have_right_arguments scope more

abbrev pub if_formed : Scope → t.TypeTree → PureType → Option PureType
if_formed scope written type = if has_right_arguments scope written && is_formed scope.types type then Some type else None

-- the type that is written, if it is there and rightly formed
abbrev pub formed_type : Scope → t.TypeTree → Option PureType
formed_type scope written = option_and_then (if_formed scope written) (resolved_type scope written)

abbrev pub if_marked : Scope → Bool → PureType → Option PureType
if_marked scope is_resource type = if same_truth is_resource (resource scope.types type) then Some type else None

-- the type of an annotation: it is rightly formed, and `@` stands before resource types alone
abbrev pub resolved_annotation : Scope → t.Annotation → Option PureType
resolved_annotation scope a = option_and_then (if_marked scope a.is_resource) (formed_type scope a.written)
