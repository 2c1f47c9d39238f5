-- Places to which is written, variables that are spent, values after the sign of a move, and events.
use Rattle.std.specs.Prelude.{Bool, true, false, not, ◌&&◌, ◌||◌, Option, Some, None, if◌then◌else◌}
use Rattle.std.specs.Option.{is_none, is_some}
use Rattle.cad_syntax.specs.Types.{PureType, declared}
use Rattle.cad_syntax.specs.declared.text.Name.{Name}
use Rattle.cad_syntax.specs.declared.type_id.TypeId.{TypeId}
use Rattle.cad_syntax.specs.declared.types.Authorization.{Authorization}
use Rattle.cad_grammar.specs.Trees as s
use Rattle.cad_grammar.specs.declared.statement.Transfer.{Transfer}
use Rattle.cad_grammar.specs.declared.statement.Transfer.TheVariants as sign
use Rattle.cad_types.specs.Declarations.{resource}
use Rattle.cad_types.specs.Optionals.{fits}
use Rattle.cad_declarations.specs.Builtins.{may_replace_elements}
use Rattle.cad_declarations.specs.Tables.{MemberEntry, MemberForm, field, function}
use Rattle.cad_declarations.specs.Typed as e
use Rattle.cad_typing.specs.Access.{rights, may_write, is_being_made, stands_in_contract}
use Rattle.cad_typing.specs.Calls.{call_constructor, of_struct, exactly, has_declared_sort, has_no_types, is_event_sort}
use Rattle.cad_typing.specs.Containers.{is_move, stands_rightly}
use Rattle.cad_typing.specs.Environments.{Environment, Local, Part, prepare_body, ordinary, moved, Typing, kinds, when, ◌>=>◌}
use Rattle.cad_typing.specs.Expressions.{infer, infer_place, infer_arguments, based}
use Rattle.cad_typing.specs.Fields.{Found, declared_member, built_in_member, found_member, indexed_type, index_of}
use Rattle.cad_typing.specs.Names.{Head, local, type_head, head, type_inside, transaction_field}
use Rattle.cad_typing.specs.Receivers.{Receiver, Base, value, contract, transaction, receiver_in, of_contract, is_place}

-- ---- places to which is written

pub record Target : Type 0 where
  pub place : e.PlaceTree
  pub type : PureType
  -- a field of `self` in an initializer, or of a transaction in `prepare`: it may be set for the first time
  pub is_own_field : Bool

abbrev pub target : Bool → e.PlaceTree → PureType → Target
target is_own_field place type = record { place = place; type = type; is_own_field = is_own_field }

-- what a value before `.` or `[` is
abbrev pub base_of : Environment → s.ExprTree → Option Base
base_of env a = based env a (λ u. infer_place env a) (λ u. infer env ordinary None a)

-- what is written is in a place of the program, or behind a reference
abbrev pub is_lasting : s.ExprTree → Receiver → Bool
is_lasting a r = is_none r.hidden && (is_some r.grant || is_place a)

-- only variables that are declared by `var` are assigned
abbrev pub variable_target : Head → Option Target
variable_target (local v) = when v.is_var (Some (target false (e.variable v.number) v.type))
variable_target _ = None

abbrev pub is_prepare : Part → Bool
is_prepare prepare_body = true
is_prepare _ = false

-- a `let` field of a transaction is set in `prepare`
abbrev pub transaction_target : Environment → Local → Option Target
transaction_target env v =
    when (v.is_var || is_prepare env.part) (Some (target (is_prepare env.part) (e.variable v.number) v.type))

abbrev pub form_target : Environment → Receiver → MemberEntry → MemberForm → Option Target
form_target env r m (field word t) =
    rights env r m >=> (λ right. when (may_write env r m word) (Some (target (is_being_made env r) (e.field r.place r.type m.name) t)))
form_target env r m (function f with_body) = None

abbrev pub found_target : Environment → Receiver → Found → Option Target
found_target env r (declared_member m) = form_target env r m m.form
found_target env r (built_in_member b) = None

abbrev pub field_target : Environment → s.ExprTree → Name → Receiver → Option Target
field_target env a name r = when (is_lasting a r) (found_member env r.type name >=> found_target env r)

abbrev pub member_target : Environment → s.ExprTree → Name → Base → Option Target
member_target env a name (value r) = field_target env a name r
member_target env a name (contract id) = field_target env a name (of_contract id)
member_target env a name transaction = transaction_field env name >=> transaction_target env
member_target env a name _ = None

-- elements are replaced by their owner, and through a reference with the rights for it
abbrev pub may_replace : Receiver → Bool
may_replace r = may_by r.grant
  where
    may_by : Option Authorization → Bool
    may_by None = true
    may_by (Some grant) = may_replace_elements grant

abbrev pub element_target : Environment → Receiver → Typing → Option Target
element_target env r i = indexed_type env r.type i.type >=> (λ t. Some (target false (e.element r.place r.type i.term) t))

abbrev pub index_target : Environment → s.ExprTree → s.ExprTree → Receiver → Option Target
index_target env a i r =
    when (is_lasting a r && may_replace r) (index_of env r (λ v. infer env ordinary v i) >=> element_target env r)

-- the target of an assignment, a swap or a second value: a variable, or a member or element of a place or behind a
-- reference
abbrev pub infer_target : Environment → s.ExprTree → Option Target
infer_target env (s.name n) = head env n >=> variable_target
infer_target env (s.member a n) = base_of env a >=> member_target env a n
infer_target env (s.index a i) = base_of env a >=> receiver_in >=> index_target env a i
infer_target env _ = None

-- ---- variables that are spent

abbrev pub local_of : Head → Option Local
local_of (local v) = Some v
local_of _ = None

abbrev pub field_of : Environment → Name → Base → Option Local
field_of env name transaction = transaction_field env name
field_of env name _ = None

-- a variable, or a field of a transaction
abbrev pub infer_variable : Environment → s.ExprTree → Option Local
infer_variable env (s.name n) = head env n >=> local_of
infer_variable env (s.member s.self n) = infer_place env s.self >=> field_of env n
infer_variable env _ = None

-- ---- values behind the sign of a move, and returned ones

abbrev pub is_copy_sign : Transfer → Bool
is_copy_sign sign.Copy = true
is_copy_sign _ = false

-- to a place of resource type a value is moved, and stands without `<-`; to any other it is copied
abbrev pub has_right_sign : Environment → Transfer → s.ExprTree → PureType → Bool
has_right_sign env by a t = if resource (kinds env) t then not (is_copy_sign by || is_move a) else is_copy_sign by

-- a value that is moved or copied to a place of a type
abbrev pub infer_moved : Environment → Transfer → PureType → s.ExprTree → Option Typing
infer_moved env by t a = infer env moved (Some t) a >=> (λ x. when (fits (kinds env) x.type t && has_right_sign env by a t) (Some x))

-- the same where the place takes the type of the value
abbrev pub infer_declared : Environment → Transfer → s.ExprTree → Option Typing
infer_declared env by a = infer env moved None a >=> (λ x. when (has_right_sign env by a x.type) (Some x))

-- a value that is returned
abbrev pub infer_returned : Environment → PureType → s.ExprTree → Option Typing
infer_returned env t a = infer env ordinary (Some t) a >=> (λ x. when (fits (kinds env) x.type t && stands_rightly env a x.type) (Some x))

-- ---- events

-- an event that is called, and its arguments
pub record Emission : Type 0 where
  pub event : TypeId
  pub arguments : e.Arguments

abbrev pub type_of_head : Head → Option PureType
type_of_head (type_head t) = Some t
type_of_head _ = None

abbrev pub type_in_base : Environment → Name → Base → Option PureType
type_in_base env name (contract id) = type_inside env id name
type_in_base env name _ = None

abbrev pub called_type : Environment → s.ExprTree → Option PureType
called_type env (s.name n) = head env n >=> type_of_head
called_type env (s.member a n) = base_of env a >=> type_in_base env n
called_type env _ = None

abbrev pub event_in : Environment → PureType → Option TypeId
event_in env (declared id) = when (has_declared_sort env is_event_sort (declared id) && stands_in_contract env id) (Some id)
event_in env _ = None

abbrev pub emission : Environment → s.Arguments → TypeId → Option Emission
emission env all id =
    infer_arguments env exactly (call_constructor env (of_struct id) id).parameters all
    >=> (λ xs. Some (record { event = id; arguments = xs }))

-- what stands under `emit`: a call of an event that this contract declares
abbrev pub infer_event : Environment → s.ExprTree → Option Emission
infer_event env (s.call f types all) = when (has_no_types types) (called_type env f >=> event_in env >=> emission env all)
infer_event env _ = None
