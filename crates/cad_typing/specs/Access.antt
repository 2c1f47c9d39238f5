-- Where a member is served, and where it is written.
use Rattle.std.specs.Prelude.{Bool, true, false, ◌&&◌, ◌==◌, Option, Some, None, List, [], ◌∷◌, take}
use Rattle.std.specs.List.{list_any}
use Rattle.cad_syntax.specs.TypeIds.{same_id}
use Rattle.cad_syntax.specs.Types.{PureType, declared}
use Rattle.cad_syntax.specs.declared.text.Name.{Name}
use Rattle.cad_syntax.specs.declared.type_id.TypeId.{TypeId}
use Rattle.cad_syntax.specs.declared.types.Authorization.{Authorization}
use Rattle.cad_syntax.specs.declared.types.Authorization.TheVariants as a
use Rattle.cad_auth.specs.Tests.{grants}
use Rattle.cad_auth.specs.Images.{image}
use Rattle.cad_grammar.specs.declared.statement.VariableKind.{VariableKind}
use Rattle.cad_grammar.specs.declared.statement.VariableKind.TheVariants as word
use Rattle.cad_declarations.specs.Names.{same_name}
use Rattle.cad_declarations.specs.Tables.{MemberEntry}
use Rattle.cad_declarations.specs.Typed as e
use Rattle.cad_declarations.specs.declared.member.MemberAccess.{MemberAccess}
use Rattle.cad_declarations.specs.declared.member.MemberAccess.TheVariants as access
use Rattle.cad_typing.specs.Environments.{Environment, Part, initializer_body, when, ◌>=>◌}
use Rattle.cad_declarations.specs.Members.{mapping_of}
use Rattle.cad_typing.specs.Receivers.{Receiver}

abbrev pub is_front : List Name → List Name → Bool
is_front [] names = true
is_front (n ∷ more) [] = false
is_front (n ∷ more) (m ∷ names) = same_name n m && is_front more names

-- a type is this one, or is declared inside it
abbrev pub is_inside : TypeId → TypeId → Bool
is_inside outer id = (outer.address.0 == id.address.0) && is_front outer.names id.names

-- the contract in which a type is declared
abbrev pub contract_of : TypeId → TypeId
contract_of id = record { address = id.address; names = take 1 id.names }

abbrev pub if_some : {A : Type 0} → (A → Bool) → Option A → Bool
if_some test None = false
if_some test (Some x) = test x

-- the code stands in a type, in its contract, or in a contract of its account
abbrev pub stands_in : Environment → TypeId → Bool
stands_in env owner = if_some (is_inside owner) env.within

abbrev pub stands_in_contract : Environment → TypeId → Bool
stands_in_contract env owner = if_some (same_id (contract_of owner)) env.tables.contract

abbrev pub stands_in_account : Environment → TypeId → Bool
stands_in_account env owner = if_some (λ c. c.address.0 == owner.address.0) env.tables.contract

-- The types whose member it is: of a composite the composite itself, and for an inherited default the interface too; of an
-- intersection the interface that declares it.
abbrev pub owners : PureType → MemberEntry → List TypeId
owners (declared id) m = id ∷ m.declared_by ∷ []
owners _ m = m.declared_by ∷ []

-- an owned value has all rights
abbrev pub is_granted : Option Authorization → Authorization → Bool
is_granted None need = true
is_granted (Some grant) need = grants grant need

abbrev pub image_of : Environment → TypeId → Option Authorization → Option Authorization
image_of env mapping None = Some a.Unauthorized
image_of env mapping (Some grant) = mapping_of env.tables mapping >=> (λ m. image m grant)

abbrev pub if_served : Bool → Option Authorization
if_served b = when b (Some a.Unauthorized)

-- What a reference may do that is read from a member of such an access, if the member is served: with a mapping what the
-- mapping makes of the rights through which the member is met, else nothing.
abbrev pub rights_by : Environment → Option Authorization → List TypeId → MemberAccess → Option Authorization
rights_by env grant owned_by access.All = Some a.Unauthorized
rights_by env grant owned_by access.Own = if_served (list_any (stands_in env) owned_by)
rights_by env grant owned_by access.Contract = if_served (list_any (stands_in_contract env) owned_by)
rights_by env grant owned_by access.Account = if_served (list_any (stands_in_account env) owned_by)
rights_by env grant owned_by (access.Entitled need) = if_served (is_granted grant need)
rights_by env grant owned_by (access.Mapped mapping) = image_of env mapping grant

abbrev pub rights : Environment → Receiver → MemberEntry → Option Authorization
rights env r m = rights_by env r.grant (owners r.type m) m.access

-- ---- writing

abbrev pub is_initializer : Part → Bool
is_initializer initializer_body = true
is_initializer _ = false

abbrev pub is_own_place : e.PlaceTree → Bool
is_own_place e.self = true
is_own_place _ = false

-- `self` in an initializer
abbrev pub is_being_made : Environment → Receiver → Bool
is_being_made env r = is_initializer env.part && is_own_place r.place

-- A `var` field is written inside the type whose field it is, a `let` field as a field of `self` in the initializer. An
-- interface's field with neither word isn't written.
abbrev pub may_write : Environment → Receiver → MemberEntry → Option VariableKind → Bool
may_write env r m (Some word.Var) = list_any (stands_in env) (owners r.type m)
may_write env r m (Some word.Let) = is_being_made env r
may_write env r m None = false
