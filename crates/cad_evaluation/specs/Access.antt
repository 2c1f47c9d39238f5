-- Which code may use a member, and what a declared member is.
use Rattle.std.specs.Prelude.{ℕ, Bool, true, false, ◌&&◌, ◌||◌, ◌==◌, List, [], ◌∷◌, filter, find, Option, Some, None, if◌then◌else◌}
use Rattle.std.specs.List.{list_any}
use Rattle.std.specs.Option.{option_or}
use Rattle.cad_syntax.specs.TypeIds.{same_id}
use Rattle.cad_syntax.specs.declared.text.Name.{Name}
use Rattle.cad_syntax.specs.declared.type_id.TypeId.{TypeId}
use Rattle.cad_syntax.specs.declared.types.Authorization.{Authorization}
use Rattle.cad_auth.specs.Tests.{grants}
use Rattle.cad_grammar.specs.declared.statement.VariableKind.{VariableKind}
use Rattle.cad_grammar.specs.declared.statement.VariableKind.TheVariants.{Let, Var}
use Rattle.cad_declarations.specs.Names.{same_name}
use Rattle.cad_declarations.specs.Tables.{MemberEntry, MemberForm, TypeEntry, field, function}
use Rattle.cad_declarations.specs.declared.member.MemberAccess.{MemberAccess}
use Rattle.cad_declarations.specs.declared.member.MemberAccess.TheVariants as access
use Rattle.cad_world.specs.State.{Frame, State}
use Rattle.cad_world.specs.Declared.{is_within, contract_of, entry_of}
use Rattle.cad_world.specs.Labels.{newest, same_node}

-- ---- declared members

abbrev pub interfaces_in : Option TypeEntry → List TypeId
interfaces_in None = []
interfaces_in (Some entry) = entry.interfaces

-- the interfaces that a type has, each before its own parents
abbrev pub interfaces_of : State → TypeId → List TypeId
interfaces_of s id = interfaces_in (entry_of s id)

abbrev pub member_in : Name → Option TypeEntry → Option MemberEntry
member_in name None = None
member_in name (Some entry) = find (λ m. same_name m.name name) entry.members

-- what a type declares itself under a name
abbrev pub own_member : State → Name → TypeId → Option MemberEntry
own_member s name id = member_in name (entry_of s id)

abbrev pub has_body : MemberForm → Bool
has_body (field kind type) = false
has_body (function signature with_body) = with_body

abbrev pub default_in : Option MemberEntry → Option MemberEntry
default_in None = None
default_in (Some m) = if has_body m.form then Some m else None

abbrev pub first_default : State → Name → List TypeId → Option MemberEntry
first_default s name [] = None
first_default s name (id ∷ ids) = option_or (default_in (own_member s name id)) (first_default s name ids)

-- a member of a composite: what it declares itself, or the first default of its interfaces
abbrev pub member_of : State → Name → TypeId → Option MemberEntry
member_of s name id = option_or (own_member s name id) (first_default s name (interfaces_of s id))

-- ---- whose member it is

abbrev pub is_there : {A : Type 0} → Option A → Bool
is_there None = false
is_there (Some a) = true

-- the type itself, and the interfaces of it that declare the member
abbrev pub holders : State → Name → TypeId → List TypeId
holders s name id = id ∷ filter (λ i. is_there (own_member s name i)) (interfaces_of s id)

-- the code stands in one of these types
abbrev pub stands_in : List TypeId → Option TypeId → Bool
stands_in ids None = false
stands_in ids (Some within) = list_any (λ id. is_within id within) ids

abbrev pub stands_in_contract : List TypeId → Option TypeId → Bool
stands_in_contract ids None = false
stands_in_contract ids (Some within) = list_any (λ id. same_id (contract_of id) (contract_of within)) ids

abbrev pub stands_in_account : List TypeId → Option TypeId → Bool
stands_in_account ids None = false
stands_in_account ids (Some within) = list_any (λ id. id.address.0 == within.address.0) ids

-- an owner has every right
abbrev pub has_right : Option Authorization → Authorization → Bool
has_right None need = true
has_right (Some own) need = grants own need

-- whether a member with this access, of these types, is served to the code and to the rights with which it is met
abbrev pub is_served : MemberAccess → List TypeId → Option TypeId → Option Authorization → Bool
is_served access.All ids within rights = true
is_served access.Own ids within rights = stands_in ids within
is_served access.Contract ids within rights = stands_in_contract ids within
is_served access.Account ids within rights = stands_in_account ids within
is_served (access.Entitled need) ids within rights = has_right rights need
is_served (access.Mapped mapping) ids within rights = true

abbrev pub within_of : Option Frame → Option TypeId
within_of None = None
within_of (Some f) = f.within

-- the type whose code runs
abbrev pub within : State → Option TypeId
within s = within_of (newest s)

abbrev pub serves : State → TypeId → MemberEntry → Option Authorization → Bool
serves s id m rights = is_served m.access (holders s m.name id) (within s) rights

-- ---- which fields are written

abbrev pub is_variable : Option VariableKind → Bool
is_variable None = false
is_variable (Some Let) = false
is_variable (Some Var) = true

abbrev pub form_is_variable : Option MemberEntry → Bool
form_is_variable None = false
form_is_variable (Some m) = is_variable_form m.form
  where
    is_variable_form : MemberForm → Bool
    is_variable_form (field kind type) = is_variable kind
    is_variable_form (function signature with_body) = false

-- those of the types that declare it as `var`
abbrev pub writers : State → Name → TypeId → List TypeId
writers s name id = filter (λ holder. form_is_variable (own_member s name holder)) (holders s name id)

abbrev pub is_made_by : State → ℕ → Option Frame → Bool
is_made_by s l None = false
is_made_by s l (Some f) = f.initializes && is_self s l f.self
  where
    is_self : State → ℕ → Option ℕ → Bool
    is_self s l None = false
    is_self s l (Some self) = same_node s l self

-- a `var` field inside a type that declares it so; any field of what the running initializer makes
abbrev pub may_write : State → TypeId → Name → ℕ → Bool
may_write s id name l = stands_in (writers s name id) (within s) || is_made_by s l (newest s)
