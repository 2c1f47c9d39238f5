-- Members that are read, and elements.
use Rattle.std.specs.Prelude.{ℕ, position, Bool, true, false, not, ◌&&◌, ◌||◌, Option, Some, None, [], option_map, if◌then◌else◌}
use Rattle.std.specs.Option.{option_or}
use Rattle.cad_syntax.specs.TypeIds.{same_id}
use Rattle.cad_syntax.specs.Types.{PureType, optional, array, dictionary, declared}
use Rattle.cad_syntax.specs.declared.text.Name.{Name}
use Rattle.cad_syntax.specs.declared.type_id.TypeId.{TypeId}
use Rattle.cad_syntax.specs.declared.types.Authorization.{Authorization}
use Rattle.cad_syntax.specs.declared.types.Authorization.TheVariants as a
use Rattle.cad_types.specs.Declarations.{resource}
use Rattle.cad_types.specs.declared.builtin.Builtin.{Builtin}
use Rattle.cad_types.specs.declared.builtin.Builtin.TheVariants as m
use Rattle.cad_declarations.specs.BuiltinNames.{builtin_member, builtin_member_of_type}
use Rattle.cad_declarations.specs.Builtins.{is_read, needed, needs_reference, result_of}
use Rattle.cad_declarations.specs.Tables.{MemberEntry, MemberForm, field, function}
use Rattle.cad_declarations.specs.Typed as e
use Rattle.cad_typing.specs.Access.{rights, is_granted}
use Rattle.cad_typing.specs.Environments.{Environment, Position, Typing, kinds, typed, when, ◌>=>◌}
use Rattle.cad_declarations.specs.Members.{member, type_in}
use Rattle.cad_declarations.specs.Names.{same_name}
use Rattle.cad_typing.specs.Names.{type_inside, transaction_field, variable_value, variable_base}
use Rattle.cad_types.specs.Optionals.{fits, reading}
use Rattle.cad_typing.specs.Receivers.{Receiver, Base, value, contract, type_name, transaction, chained, closed, receiver_at, held, of_contract}
use Rattle.cad_typing.specs.Types.{void, is_integer_type}

-- ---- members

-- a member by its name: a declared one, or one that is built in
pub data Found : Type 0 where
  declared_member : MemberEntry → Found
  built_in_member : Builtin → Found

abbrev pub found_member : Environment → PureType → Name → Option Found
found_member env t name =
    option_or (option_map declared_member (member env.tables t name)) (option_map built_in_member (builtin_member (kinds env) t name))

abbrev pub is_account : Builtin → Bool
is_account m.ContractAccount = true
is_account _ = false

abbrev pub is_program : Environment → PureType → Bool
is_program env (declared id) = is_own env.tables.contract
  where
    is_own : Option TypeId → Bool
    is_own None = false
    is_own (Some c) = same_id c id
is_program env _ = false

abbrev pub is_owned : Option Authorization → Bool
is_owned None = true
is_owned (Some grant) = false

-- A built-in member is served by the rights of a reference; those of accounts are met through references alone; `account`
-- is there on the contract itself, inside that contract.
abbrev pub serves : Environment → Receiver → Builtin → Bool
serves env r b =
    is_granted r.grant (needed b)
    && (not (needs_reference b && is_owned r.grant) && (not (is_account b) || (is_owned r.grant && is_program env r.type)))

-- what a reference grants; an owner needs none
abbrev pub grant_of : Receiver → Authorization
grant_of r = granted_by r.grant
  where
    granted_by : Option Authorization → Authorization
    granted_by None = a.Unauthorized
    granted_by (Some grant) = grant

-- a member that is read: what is done with the receiver, and the type of what that gives
pub record Reading : Type 0 where
  pub usage : e.UseTree
  pub type : PureType

-- through a reference a container or composite is read as a reference
abbrev pub type_read : Option Authorization → Authorization → PureType → PureType
type_read None right t = t
type_read (Some grant) right t = reading right t

abbrev pub read_field : Environment → Receiver → MemberEntry → PureType → Option Reading
read_field env r m t = rights env r m >=> (λ right. Some (record { usage = e.get m.name right; type = type_read r.grant right t }))

abbrev pub read_built_in : Environment → Receiver → Builtin → Option Reading
read_built_in env r b = when (is_read b && serves env r b)
    (Some (record { usage = e.builtin_field b; type = result_of (kinds env) (grant_of r) r.type void b }))

abbrev pub read_form : Environment → Receiver → MemberEntry → MemberForm → Option Reading
read_form env r m (field word t) = read_field env r m t
read_form env r m (function signature with_body) = None

abbrev pub read_found : Environment → Receiver → Found → Option Reading
read_found env r (declared_member m) = read_form env r m m.form
read_found env r (built_in_member b) = read_built_in env r b

-- a field or built-in member that is read
abbrev pub read_member : Environment → Receiver → Name → Option Reading
read_member env r name = found_member env r.type name >=> read_found env r

-- a resource doesn't leave the place in which it is nested
abbrev pub read_value : Environment → Receiver → Reading → Option Typing
read_value env r x = when (not (resource (kinds env) x.type)) (typed (closed r.hidden (e.on r.place x.usage)) x.type)

abbrev pub member_value : Environment → Receiver → Name → Option Typing
member_value env r name = read_member env r name >=> read_value env r

-- what is read through a reference, or built in, is a value of its own
abbrev pub value_base : Environment → Receiver → Reading → Option Base
value_base env r x = read_value env r x >=> held env

-- an owned field is a place
abbrev pub field_base : Environment → Receiver → Name → Reading → Option Base
field_base env r name x =
    Some (value (receiver_at r.hidden (e.field r.place r.type name) (e.on r.place x.usage) x.type))

abbrev pub reading_base : Environment → Receiver → Name → Found → Reading → Option Base
reading_base env r name (built_in_member b) x = value_base env r x
reading_base env r name (declared_member m) x = if is_owned r.grant then field_base env r name x else value_base env r x

abbrev pub member_of_receiver : Environment → Receiver → Name → Option Base
member_of_receiver env r name = found_member env r.type name >=> (λ f. read_found env r f >=> reading_base env r name f)

-- ---- cases of enums, and members of types

-- the place of a case in its enum
abbrev pub case_number : Environment → TypeId → Name → Option ℕ
case_number env id name = type_in env.tables.types id >=> (λ t. position (same_name name) t.cases)

abbrev pub case_value : Environment → PureType → Name → Option Typing
case_value env (declared id) name = case_number env id name >=> (λ n. typed (e.case id n) (declared id))
case_value env _ name = None

abbrev pub type_constant : Environment → PureType → Name → Option Typing
type_constant env t name = builtin_member_of_type t name >=> (λ b.
    when (is_read b) (typed (e.builtin b [] e.no_arguments) (result_of (kinds env) a.Unauthorized t void b)))

-- a case of an enum, or a constant of a kind of numbers
abbrev pub type_member : Environment → PureType → Name → Option Typing
type_member env t name = option_or (case_value env t name) (type_constant env t name)

-- ---- `a.n`

abbrev pub value_of_member : Environment → Position → Name → Base → Option Typing
value_of_member env position name (value r) = member_value env r name
value_of_member env position name (contract id) = member_value env (of_contract id) name
value_of_member env position name (type_name t) = type_member env t name
value_of_member env position name transaction = transaction_field env name >=> variable_value env position
value_of_member env position name (chained r wrapped) = None

abbrev pub base_of_member : Environment → Name → Base → Option Base
base_of_member env name (value r) = member_of_receiver env r name
base_of_member env name (contract id) = option_or (member_of_receiver env (of_contract id) name) (option_map type_name (type_inside env id name))
base_of_member env name (type_name t) = type_member env t name >=> held env
base_of_member env name transaction = transaction_field env name >=> variable_base env
base_of_member env name (chained r wrapped) = None

-- ---- `a[e]`

-- what an index expects: a key its type
abbrev pub expected_index : PureType → Option PureType
expected_index (dictionary key t) = Some key
expected_index _ = None

-- the type of what stands under an index of this type
abbrev pub indexed_type : Environment → PureType → PureType → Option PureType
indexed_type env (array t) i = when (is_integer_type i) (Some t)
indexed_type env (dictionary key t) i = when (fits (kinds env) i key) (Some (optional t))
indexed_type env _ i = None

-- an array takes any kind of integers, and a dictionary its keys
abbrev pub index_of : Environment → Receiver → (Option PureType → Option Typing) → Option Typing
index_of env r infer_index = infer_index (expected_index r.type)

abbrev pub read_element : Environment → Receiver → Typing → Option PureType
read_element env r i = indexed_type env r.type i.type >=> (λ t. Some (type_read r.grant a.Unauthorized t))

abbrev pub index_value : Environment → Receiver → Typing → Option Typing
index_value env r i = read_element env r i >=> (λ t.
    when (not (resource (kinds env) t)) (typed (closed r.hidden (e.index r.place r.type i.term)) t))

abbrev pub element_base : Environment → Receiver → Typing → PureType → Option Base
element_base env r i t = Some (value (receiver_at r.hidden (e.element r.place r.type i.term) (e.index r.place r.type i.term) t))

-- an owned element is a place
abbrev pub index_base : Environment → Receiver → Typing → Option Base
index_base env r i =
    if is_owned r.grant then indexed_type env r.type i.type >=> element_base env r i
    else index_value env r i >=> held env
