-- What a name in an expression stands for, and variables as values and as receivers.
use Rattle.std.specs.Prelude.{Bool, true, false, not, ◌&&◌, Option, Some, None, List, [], ◌∷◌, find, option_map, option_and_then, if◌then◌else◌}
use Rattle.std.specs.Option.{option_or}
use Rattle.cad_syntax.specs.Types.{PureType, basic, declared}
use Rattle.cad_syntax.specs.declared.text.Name.{Name}
use Rattle.cad_syntax.specs.declared.type_id.TypeId.{TypeId}
use Rattle.cad_types.specs.Classes.{has_sort}
use Rattle.cad_types.specs.Declarations.{found, resource}
use Rattle.cad_types.specs.declared.builtin.Builtin.{Builtin}
use Rattle.cad_types.specs.declared.declared.Sort.{Sort}
use Rattle.cad_types.specs.declared.declared.Sort.TheVariants as sort
use Rattle.cad_declarations.specs.BuiltinNames.{builtin_function}
use Rattle.cad_declarations.specs.Names.{same_name, basic_type}
use Rattle.cad_declarations.specs.Scopes.{Meaning, type_meaning, meaning, meaning_of, inside, is_interface_sort}
use Rattle.cad_declarations.specs.Tables.{MemberEntry}
use Rattle.cad_declarations.specs.Typed as e
use Rattle.cad_typing.specs.Environments.{Environment, Local, Part, precondition, postcondition, before_value, Position, moved, Typing, kinds, scope, local_named, type_of_self, typed, when, ◌>=>◌}
use Rattle.cad_typing.specs.Receivers.{Base, value, contract, type_name, transaction, owned, receiver_at}

-- ---- names

pub data Head : Type 0 where
  local : Local → Head
  -- a function that stands outside a contract
  function : MemberEntry → Head
  contract_head : TypeId → Head
  -- a declared or basic type, which has members of its own or is called
  type_head : PureType → Head
  builtin_head : Builtin → Head

abbrev pub is_contract_sort : Sort → Bool
is_contract_sort sort.Contract = true
is_contract_sort _ = false

abbrev pub declared_head : TypeId → Sort → Option Head
declared_head id s = if is_contract_sort s then Some (contract_head id) else (if is_interface_sort s then None else Some (type_head (declared id)))

abbrev pub head_of : Option Meaning → Option Head
head_of (Some (type_meaning id s)) = declared_head id s
head_of _ = None

abbrev pub built_in_head : Name → Option Head
built_in_head name = option_or (option_map builtin_head (builtin_function name)) (option_map (λ b. type_head (basic b)) (basic_type (name ∷ [])))

-- a contract or declared type by one name; an inner declaration hides an outer one, and what is built in
abbrev pub declared_name : Environment → Name → Option Head
declared_name env name = head_of (meaning (scope env) (name ∷ []))

abbrev pub function_named : Environment → Name → Option MemberEntry
function_named env name = find (λ f. same_name f.name name) env.tables.functions

-- a variable, else a function, else a declaration, else what is built in
abbrev pub head : Environment → Name → Option Head
head env name = option_or (option_map local (local_named env name))
    (option_or (option_map function (function_named env name)) (option_or (declared_name env name) (built_in_head name)))

-- a type that a contract declares
abbrev pub type_inside : Environment → TypeId → Name → Option PureType
type_inside env id name = type_in (meaning_of (scope env) (inside id name))
  where
    type_in : Option Meaning → Option PureType
    type_in (Some (type_meaning t s)) = if is_interface_sort s then None else Some (declared t)
    type_in _ = None

-- ---- variables

abbrev pub is_condition : Part → Bool
is_condition precondition = true
is_condition (postcondition result) = true
is_condition before_value = true
is_condition _ = false

abbrev pub is_postcondition : Part → Bool
is_postcondition (postcondition result) = true
is_postcondition _ = false

abbrev pub stands_in_interface : Environment → Bool
stands_in_interface env = interface_at env.within
  where
    interface_at : Option TypeId → Bool
    interface_at None = false
    interface_at (Some id) = has_sort is_interface_sort (found (kinds env) id)

-- a postcondition of an interface names a parameter of resource type under `before` alone
abbrev pub may_be_named : Environment → PureType → Bool
may_be_named env t = not (resource (kinds env) t && (is_postcondition env.part && stands_in_interface env))

-- a resource leaves its variable in a moved position, but not in a condition
abbrev pub may_leave : Environment → Position → Bool
may_leave env moved = not (is_condition env.part)
may_leave env _ = false

-- the value of a variable: a resource only where it is moved
abbrev pub variable_value : Environment → Position → Local → Option Typing
variable_value env position v =
    if resource (kinds env) v.type then when (may_leave env position) (typed (e.take (e.variable v.number)) v.type)
    else typed (e.copy (e.variable v.number)) v.type

abbrev pub variable_base : Environment → Local → Option Base
variable_base env v =
    when (may_be_named env v.type) (Some (value (receiver_at None (e.variable v.number) (e.copy (e.variable v.number)) v.type)))

abbrev pub value_of_head : Environment → Position → Head → Option Typing
value_of_head env position (local v) = variable_value env position v
value_of_head env position _ = None

abbrev pub base_of_head : Environment → Head → Option Base
base_of_head env (local v) = variable_base env v
base_of_head env (contract_head id) = Some (contract id)
base_of_head env (type_head t) = Some (type_name t)
base_of_head env _ = None

-- ---- `self`

abbrev pub self_type : Environment → Option PureType
self_type env = option_map (type_of_self (kinds env)) env.within

abbrev pub is_contract_type : Environment → PureType → Bool
is_contract_type env (declared id) = has_sort is_contract_sort (found (kinds env) id)
is_contract_type env _ = false

-- `self` of a struct is copied; that of a resource isn't moved, and that of a contract or transaction is no value
abbrev pub self_value : Environment → Option Typing
self_value env = self_type env >=> (λ t. when (not (resource (kinds env) t) && not (is_contract_type env t)) (typed (e.copy e.self) t))

abbrev pub self_owned : Environment → Option Base
self_owned env = self_type env >=> (λ t. Some (value (owned None e.self t)))

-- in a transaction `self` has its fields alone
abbrev pub self_base : Environment → Option Base
self_base env = in_transaction env.transaction_fields
  where
    in_transaction : Option (List Local) → Option Base
    in_transaction None = self_owned env
    in_transaction (Some fields) = Some transaction

abbrev pub transaction_field : Environment → Name → Option Local
transaction_field env name = option_and_then (find (λ v. same_name v.name name)) env.transaction_fields
