-- What a program's tables rest on: the contracts that it imports, and nothing else.
use Rattle.std.specs.Prelude.{◌≡◌, true, false, Option, Some, List, [], ◌∷◌, ◌++◌, map, flat_map}
use Rattle.cad_syntax.specs.TypeIds.{has}
use Rattle.cad_syntax.specs.declared.address.Address.{Address}
use Rattle.cad_syntax.specs.declared.text.Name.{Name}
use Rattle.cad_syntax.specs.declared.type_id.TypeId.{TypeId}
use Rattle.cad_grammar.specs.Trees.{ProgramTree}
use Rattle.cad_types.specs.Declarations.{Declaration}
use Rattle.cad_declarations.specs.Build.{build}
use Rattle.cad_declarations.specs.Deployed.{parent_links_of, linked_type, deployed_types}
use Rattle.cad_declarations.specs.Imports.{ContractEntry, all_imported, import_links, closure}
use Rattle.cad_declarations.specs.Meets.{MemberMeets, Meets}
use Rattle.cad_declarations.specs.Members.{type_in, members_in, member_in, declared_member}
use Rattle.cad_declarations.specs.Reached.{linked, reached_from}
use Rattle.cad_declarations.specs.Tables.{MemberEntry, TypeEntry}
use Rattle.cad_declarations.specs.declared.link.Link.{Link}

-- a program's tables are made of the contracts that it imports, at any depth
abbrev pub ImportsAreEnough : Type 0
ImportsAreEnough = (deployed : List ContractEntry) (place : Option Address) (program : ProgramTree)
    → build (closure deployed (all_imported program.imports)) place program ≡ build deployed place program

-- one more contract, which isn't imported at any depth, changes neither what is imported nor the answer
abbrev pub OthersDontCount : Type 0
OthersDontCount = (before after : List ContractEntry) (other : ContractEntry) (place : Option Address) (program : ProgramTree)
    → has (reached_from (import_links (before ++ after)) (all_imported program.imports)) other.id ≡ false
    → (closure (before ++ other ∷ after) (all_imported program.imports) ≡ closure (before ++ after) (all_imported program.imports))
    × (build (before ++ other ∷ after) place program ≡ build (before ++ after) place program)

-- what is reached leads to what is reached
abbrev pub ReachedAreClosed : Type 0
ReachedAreClosed = (links : List Link) (ids : List TypeId) (a b : TypeId)
    → has (reached_from links ids) a ≡ true → has (linked links a) b ≡ true → has (reached_from links ids) b ≡ true

-- ---- members

-- A type that meets an interface has each of its members, with the same access, and a type that meets the interface's.
abbrev pub MembersAreMet : Type 0
MembersAreMet = (k : List Declaration) (types : List TypeEntry) (t : TypeEntry) (interface : TypeId) (name : Name) (asked : MemberEntry)
    → type_in types t.id ≡ Some t → Meets k types t → has t.interfaces interface ≡ true
    → member_in (members_in (type_in types interface)) name ≡ Some asked
    → (own : MemberEntry) × (declared_member types name t.id ≡ Some own) × MemberMeets k own asked

-- ---- one contract more

abbrev pub ids_of : List TypeEntry → List TypeId
ids_of types = map (λ t. t.id) types

abbrev pub all_types : List ContractEntry → List TypeEntry
all_types deployed = flat_map (λ c. c.types) deployed

abbrev pub all_parents : List ContractEntry → List Link
all_parents deployed = flat_map parent_links_of deployed

-- A contract that declares none of the types that are there, nor an interface that they name, adds its own and changes none.
abbrev pub AddingChangesNothing : Type 0
AddingChangesNothing = (before : List ContractEntry) (new : ContractEntry)
    → ((id : TypeId) → has (ids_of new.types) id ≡ true → has (reached_from (all_parents before) (ids_of (all_types before))) id ≡ false)
    → deployed_types (before ++ new ∷ []) ≡ deployed_types before ++ map (linked_type (all_parents (before ++ new ∷ []))) new.types
