-- What is called, with its parameters and its result.
use Rattle.std.specs.Prelude.{ℕ, Bool, true, false, not, ◌&&◌, Option, Some, None, List, [], ◌∷◌, drop, map, option_map, if◌then◌else◌}
use Rattle.std.specs.Option.{option_or}
use Rattle.cad_syntax.specs.Types.{PureType, declared}
use Rattle.cad_syntax.specs.declared.text.Name.{Name}
use Rattle.cad_syntax.specs.declared.type_id.TypeId.{TypeId}
use Rattle.cad_syntax.specs.declared.types.Authorization.TheVariants as a
use Rattle.cad_grammar.specs.Trees as s
use Rattle.cad_types.specs.Classes.{has_sort}
use Rattle.cad_types.specs.Declarations.{Declaration, found, resource}
use Rattle.cad_types.specs.declared.builtin.Builtin.{Builtin}
use Rattle.cad_types.specs.declared.builtin.Builtin.TheVariants as m
use Rattle.cad_types.specs.declared.declared.Sort.{Sort}
use Rattle.cad_types.specs.declared.declared.Sort.TheVariants as sort
use Rattle.cad_declarations.specs.BuiltinNames.{builtin_call_of_type, builtin_member_of_type}
use Rattle.cad_declarations.specs.Builtins.{ParameterForm, BuiltinParameter, TypeRule, no_type, any_type, saved_type, storable_type, copied_type, reference_type, is_read, type_rule, parameters_of, last_may_be_absent, takes_more, result_of}
use Rattle.cad_declarations.specs.Builtins as built_in
use Rattle.cad_declarations.specs.Formed.{is_reference, resolved_annotation}
use Rattle.cad_declarations.specs.Scopes.{Meaning, type_meaning, meaning, option_cons}
use Rattle.cad_declarations.specs.Tables.{TypeEntry, MemberEntry, MemberForm, SignatureType, ParameterType, field, function}
use Rattle.cad_declarations.specs.Typed as e
use Rattle.cad_typing.specs.Access.{rights, stands_in_contract}
use Rattle.cad_typing.specs.Environments.{Environment, Typing, kinds, scope, typed, when, ◌>=>◌}
use Rattle.cad_typing.specs.Fields.{Found, declared_member, built_in_member, found_member, serves, grant_of}
use Rattle.cad_declarations.specs.Members.{type_in}
use Rattle.cad_typing.specs.Names.{Head, function, type_head, builtin_head, type_inside, is_postcondition}
use Rattle.cad_typing.specs.Receivers.{Receiver, Hidden, Base, value, contract, type_name, transaction, chained, closed, of_contract}
use Rattle.cad_typing.specs.Types.{void, is_never_type, is_storable}

-- ---- parameters

-- what an argument may be: what fits a type; any number; anything that can be stored; anything that is no resource
pub data Takes : Type 0 where
  fitting : PureType → Takes
  any_number : Takes
  any_storable : Takes
  any_plain : Takes

pub record Parameter : Type 0 where
  pub label : Option (List ℕ)
  pub takes : Takes

-- as many arguments as parameters; or the last may be absent; or more may follow that are no resources, with any labels
pub data Count : Type 0 where
  exactly : Count
  last_optional : Count
  more_follow : Count

abbrev pub declared_parameter : ParameterType → Parameter
declared_parameter p = record { label = option_map (λ n. n.0) p.label; takes = fitting p.type }

abbrev pub takes_of : ParameterForm → Takes
takes_of (built_in.fits t) = fitting t
takes_of built_in.any_number = any_number

abbrev pub built_in_parameter : BuiltinParameter → Parameter
built_in_parameter p = record { label = p.label; takes = takes_of p.form }

abbrev pub plain_parameter : Takes → Parameter
plain_parameter takes = record { label = None; takes = takes }

abbrev pub count_of : Builtin → Count
count_of b = if last_may_be_absent b then last_optional else (if takes_more b then more_follow else exactly)

-- ---- calls

-- a function of a value
pub data Method : Type 0 where
  declared_method : Name → Bool → Bool → Method
  built_in_method : Builtin → List PureType → Method

pub data Callee : Type 0 where
  -- a function outside a contract: whether it is `view`, and whether it never ends
  of_function : Name → Bool → Bool → Callee
  of_struct : TypeId → Callee
  of_resource : TypeId → Callee
  of_builtin : Builtin → List PureType → Callee
  -- `Type<T>()`
  of_type : PureType → Callee
  of_method : e.PlaceTree → Method → Callee
  -- of `a?.n`: whether the result is wrapped
  of_chain : e.PlaceTree → Method → Bool → Callee
  -- `before(e)`
  of_before : ℕ → Callee

pub record Call : Type 0 where
  pub hidden : Option Hidden
  pub callee : Callee
  pub parameters : List Parameter
  pub count : Count
  pub result : PureType

-- the type to which the first argument is transferred
abbrev pub first_target : e.Arguments → List PureType
first_target e.no_arguments = []
first_target (e.arguments x t all) = t ∷ []

-- without a written type argument it is the type of the first argument
abbrev pub types_by : List PureType → e.Arguments → TypeRule → List PureType
types_by [] all saved_type = first_target all
types_by types all _ = types

abbrev pub usage_of : Method → e.Arguments → e.UseTree
usage_of (declared_method name is_view is_never) all = e.method name is_view is_never all
usage_of (built_in_method b types) all = e.builtin_call b (types_by types all (type_rule b)) all

abbrev pub call_term : Callee → e.Arguments → e.TermTree
call_term (of_function name is_view is_never) all = e.call name is_view is_never all
call_term (of_struct id) all = e.construct id all
call_term (of_resource id) all = e.create id all
call_term (of_builtin b types) all = e.builtin b types all
call_term (of_type t) all = e.meta t
call_term (of_method place m) all = e.on place (usage_of m all)
call_term (of_chain place m wraps) all = e.chain place (usage_of m all) wraps
call_term (of_before n) all = e.before n

-- what stood under `before` has its own type
abbrev pub result_by : Callee → PureType → e.Arguments → PureType
result_by (of_before n) result (e.arguments x t all) = t
result_by _ result all = result

abbrev pub call_typed : Call → e.Arguments → Option Typing
call_typed c all = typed (closed c.hidden (call_term c.callee all)) (result_by c.callee c.result all)

-- ---- type arguments

abbrev pub has_no_types : s.Annotations → Bool
has_no_types s.no_annotations = true
has_no_types (s.annotations is_resource written more) = false

abbrev pub written_types : Environment → s.Annotations → Option (List PureType)
written_types env s.no_annotations = Some []
written_types env (s.annotations is_resource written more) =
    option_cons (resolved_annotation (scope env) (record { is_resource = is_resource; written = written })) (written_types env more)

abbrev pub obeys : List Declaration → TypeRule → List PureType → Bool
obeys d no_type [] = true
obeys d saved_type [] = true
obeys d any_type (t ∷ []) = true
obeys d saved_type (t ∷ []) = is_storable d t
obeys d storable_type (t ∷ []) = is_storable d t
obeys d copied_type (t ∷ []) = is_storable d t && not (resource d t)
obeys d reference_type (t ∷ []) = is_reference t
obeys d _ _ = false

-- the type arguments of a built-in member, as it asks for them
abbrev pub type_arguments : Environment → Builtin → s.Annotations → Option (List PureType)
type_arguments env b types = written_types env types >=> (λ ts. when (obeys (kinds env) (type_rule b) ts) (Some ts))

abbrev pub one_type : List PureType → PureType
one_type [] = void
one_type (t ∷ more) = t

-- where no type is written to save, anything that can be stored is taken
abbrev pub saved_parameters : TypeRule → List PureType → List Parameter → List Parameter
saved_parameters saved_type [] parameters = plain_parameter any_storable ∷ drop 1 parameters
saved_parameters _ types parameters = parameters

abbrev pub parameters_with : Environment → Builtin → PureType → List PureType → List Parameter
parameters_with env b on types =
    saved_parameters (type_rule b) types (map built_in_parameter (parameters_of (kinds env) on (one_type types) b))

-- ---- functions, types and constructors

abbrev pub call_function : Name → SignatureType → Call
call_function name f = record {
  hidden = None;
  callee = of_function name f.is_view (is_never_type f.result);
  parameters = map declared_parameter f.parameters;
  count = exactly;
  result = f.result;
}

abbrev pub call_form : Name → MemberForm → Option Call
call_form name (field word t) = None
call_form name (function f with_body) = Some (call_function name f)

-- a built-in function, or a built-in member of a type
abbrev pub call_builtin : Environment → PureType → List PureType → Builtin → List PureType → Call
call_builtin env on given b types = record {
  hidden = None;
  callee = of_builtin b given;
  parameters = parameters_with env b on types;
  count = count_of b;
  result = result_of (kinds env) a.Unauthorized on (one_type types) b;
}

abbrev pub call_built_in_function : Environment → Builtin → List PureType → Call
call_built_in_function env m.MetaType types =
    record { hidden = None; callee = of_type (one_type types); parameters = []; count = exactly; result = result_of (kinds env) a.Unauthorized void void m.MetaType }
call_built_in_function env b types = call_builtin env void types b types

abbrev pub initializer_parameters : Option TypeEntry → List Parameter
initializer_parameters None = []
initializer_parameters (Some t) = written_parameters t.initializer
  where
    written_parameters : Option SignatureType → List Parameter
    written_parameters None = []
    written_parameters (Some f) = map declared_parameter f.parameters

abbrev pub call_constructor : Environment → Callee → TypeId → Call
call_constructor env callee id = record {
  hidden = None;
  callee = callee;
  parameters = initializer_parameters (type_in env.tables.types id);
  count = exactly;
  result = declared id;
}

abbrev pub is_struct_sort : Sort → Bool
is_struct_sort sort.Struct = true
is_struct_sort _ = false

abbrev pub is_event_sort : Sort → Bool
is_event_sort sort.Event = true
is_event_sort _ = false

abbrev pub has_declared_sort : Environment → (Sort → Bool) → PureType → Bool
has_declared_sort env test (declared id) = has_sort test (found (kinds env) id)
has_declared_sort env test _ = false

abbrev pub struct_call : Environment → PureType → Option Call
struct_call env (declared id) = when (has_sort is_struct_sort (found (kinds env) id)) (Some (call_constructor env (of_struct id) id))
struct_call env _ = None

-- the types that evaluation is given: of `E(rawValue: r)` the enum
abbrev pub given_types : PureType → List PureType
given_types (declared id) = declared id ∷ []
given_types _ = []

-- a struct is made, a number converted, or a case of an enum found
abbrev pub call_type : Environment → PureType → Option Call
call_type env t = option_or (struct_call env t) (option_map (λ b. call_builtin env t (given_types t) b []) (builtin_call_of_type (kinds env) t))

abbrev pub call_head : Environment → s.Annotations → Head → Option Call
call_head env types (function f) = when (has_no_types types) (call_form f.name f.form)
call_head env types (type_head t) = when (has_no_types types) (call_type env t)
call_head env types (builtin_head b) = type_arguments env b types >=> (λ ts. Some (call_built_in_function env b ts))
call_head env types _ = None

-- ---- methods

pub record Invocation : Type 0 where
  pub method : Method
  pub parameters : List Parameter
  pub count : Count
  pub result : PureType

abbrev pub invoke_signature : Name → SignatureType → Invocation
invoke_signature name f = record {
  method = declared_method name f.is_view (is_never_type f.result);
  parameters = map declared_parameter f.parameters;
  count = exactly;
  result = f.result;
}

abbrev pub invoke_form : Environment → Receiver → MemberEntry → MemberForm → Option Invocation
invoke_form env r x (field word t) = None
invoke_form env r x (function f with_body) = rights env r x >=> (λ right. Some (invoke_signature x.name f))

abbrev pub invoke_typed : Environment → Receiver → Builtin → List PureType → Invocation
invoke_typed env r b types = record {
  method = built_in_method b types;
  parameters = parameters_with env b r.type types;
  count = count_of b;
  result = result_of (kinds env) (grant_of r) r.type (one_type types) b;
}

abbrev pub invoke_found : Environment → s.Annotations → Receiver → Found → Option Invocation
invoke_found env types r (declared_member x) = when (has_no_types types) (invoke_form env r x x.form)
invoke_found env types r (built_in_member b) =
    when (not (is_read b) && serves env r b) (type_arguments env b types >=> (λ ts. Some (invoke_typed env r b ts)))

-- a member that is called
abbrev pub invoke : Environment → s.Annotations → Name → Receiver → Option Invocation
invoke env types name r = found_member env r.type name >=> invoke_found env types r

abbrev pub call_method : Receiver → Invocation → Call
call_method r i = record {
  hidden = r.hidden;
  callee = of_method r.place i.method;
  parameters = i.parameters;
  count = i.count;
  result = i.result;
}

abbrev pub method_call : Environment → s.Annotations → Name → Receiver → Option Call
method_call env types name r = invoke env types name r >=> (λ i. Some (call_method r i))

abbrev pub type_method_call : Environment → s.Annotations → Name → PureType → Option Call
type_method_call env types name t = builtin_member_of_type t name >=> (λ b.
    when (has_no_types types && not (is_read b)) (Some (call_builtin env t (given_types t) b [])))

abbrev pub type_inside_call : Environment → s.Annotations → TypeId → Name → Option Call
type_inside_call env types id name = when (has_no_types types) (type_inside env id name >=> call_type env)

-- `a.n(..)`
abbrev pub call_member : Environment → s.Annotations → Name → Base → Option Call
call_member env types name (value r) = method_call env types name r
call_member env types name (contract id) = option_or (method_call env types name (of_contract id)) (type_inside_call env types id name)
call_member env types name (type_name t) = type_method_call env types name t
call_member env types name transaction = None
call_member env types name (chained r wrapped) = None

-- ---- `create`

abbrev pub resource_named : Option Meaning → Option TypeId
resource_named (Some (type_meaning id sort.Resource)) = Some id
resource_named _ = None

-- only the contract that declares a resource makes it
abbrev pub create_call : Environment → List Name → Option Call
create_call env names = resource_named (meaning (scope env) names) >=> (λ id.
    when (stands_in_contract env id) (Some (call_constructor env (of_resource id) id)))

-- ---- `before`

-- a value at entry, which is no resource; its number is how many stand before it
abbrev pub before_call : Environment → s.Annotations → Option Call
before_call env types = when (is_postcondition env.part && has_no_types types)
    (Some (record { hidden = None; callee = of_before env.befores; parameters = plain_parameter any_plain ∷ []; count = exactly; result = void }))
