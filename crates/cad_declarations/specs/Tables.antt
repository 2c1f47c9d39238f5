-- Declarations without where their parts lie in memory.
use Rattle.std.specs.Prelude.{Bool, Option, List}
use Rattle.cad_syntax.specs.Types.{PureType}
use Rattle.cad_syntax.specs.declared.text.Name.{Name}
use Rattle.cad_syntax.specs.declared.address.Address.{Address}
use Rattle.cad_syntax.specs.declared.kind.Kind.{Kind}
use Rattle.cad_syntax.specs.declared.type_id.TypeId.{TypeId}
use Rattle.cad_auth.specs.declared.mapping.Mapping.{Mapping}
use Rattle.cad_types.specs.declared.declared.Sort.{Sort}
use Rattle.cad_grammar.specs.declared.statement.VariableKind.{VariableKind}
use Rattle.cad_declarations.specs.declared.member.MemberAccess.{MemberAccess}

-- a parameter; without a label an argument has none either
pub record ParameterType : Type 0 where
  pub label : Option Name
  pub name : Name
  pub type : PureType

-- what a function, an initializer or an event takes and gives
pub record SignatureType : Type 0 where
  pub is_view : Bool
  pub parameters : List ParameterType
  pub result : PureType

pub data MemberForm : Type 0 where
  -- `let`, `var`, or neither in an interface; its type
  field : Option VariableKind → PureType → MemberForm
  -- whether it has a body
  function : SignatureType → Bool → MemberForm

-- a member, and the type that declares it
pub record MemberEntry : Type 0 where
  pub name : Name
  pub access : MemberAccess
  pub declared_by : TypeId
  pub form : MemberForm

-- a declared type
pub record TypeEntry : Type 0 where
  pub id : TypeId
  pub sort : Sort
  -- the interfaces that it names, in order
  pub parents : List TypeId
  -- all interfaces that it has: each before its own parents, later repeats dropped
  pub interfaces : List TypeId
  -- the fields and functions that it declares itself, in order; of an event its parameters
  pub members : List MemberEntry
  -- the initializer that is written, or the event
  pub initializer : Option SignatureType
  -- the cases of an enum, and the kind of their numbers
  pub cases : List Name
  pub raw : Option Kind

pub record MappingEntry : Type 0 where
  pub id : TypeId
  pub mapping : Mapping

-- the declarations of a program and of all that it imports, each once, those of imports first
pub record ProgramTables : Type 0 where
  pub place : Option Address
  -- the contract that the program is
  pub contract : Option TypeId
  -- the contracts that it imports by name
  pub imports : List TypeId
  pub types : List TypeEntry
  pub entitlements : List TypeId
  pub mappings : List MappingEntry
  -- the functions that stand outside a contract
  pub functions : List MemberEntry
