-- Whole programs: where they are ill-typed first, else the bodies of what they declare.
use Rattle.std.specs.Prelude.{◌≡◌, ℕ, true, false, Option, Some, None, Result, Ok, Err, List, [], ◌∷◌, ◌++◌, filter_map, flat_map, option_map}
use Rattle.std.specs.Result.{result_ok}
use Rattle.cad_syntax.specs.declared.text.Name.{Name}
use Rattle.cad_syntax.specs.declared.type_id.TypeId.{TypeId}
use Rattle.cad_grammar.specs.Trees as s
use Rattle.cad_declarations.specs.Build.{stop_at}
use Rattle.cad_declarations.specs.Meets.{Each}
use Rattle.cad_declarations.specs.Members.{first_some}
use Rattle.cad_declarations.specs.Scopes.{inside}
use Rattle.cad_declarations.specs.Tables.{ProgramTables}
use Rattle.cad_declarations.specs.Typed as e
use Rattle.cad_declarations.specs.declared.stop.Stop.{Stop}
use Rattle.cad_paths.specs.Returns.{LacksReturn}
use Rattle.cad_typing.specs.Functions.{Routine, initializer_routine, type_routine, type_top_function}
use Rattle.cad_typing.specs.Heads.{destroyed_event}
use Rattle.cad_typing.specs.Pieces.{PieceBody, function_piece, Piece, program_pieces, method}
use Rattle.cad_typing.specs.Transactions.{transaction_body}

-- ---- the first stop

-- nothing of a piece is refused
abbrev pub IsRight : (Piece → Stop → Type 0) → Piece → Type 0
IsRight Refused p = (stop : Stop) → Refused p stop → ⊥

-- the first piece of which something is refused, and where
pub record FirstRefused (Refused : Piece → Stop → Type 0) (pieces : List Piece) (stop : Stop) : Type 0 where
  pub before : List Piece
  pub piece : Piece
  pub after : List Piece
  pub split : pieces ≡ before ++ piece ∷ after
  pub right : Each (IsRight Refused) before
  pub refused : Refused piece stop

-- Typing stops at a statement; a function without its return at its number of statements.
abbrev pub StopsAt : List Name → Result PieceBody ℕ → Stop → Type 0
StopsAt names (Err n) stop = stop ≡ stop_at names n
StopsAt names (Ok (function_piece f)) stop = LacksReturn f × (stop ≡ stop_at names f.statements)
StopsAt names (Ok _) stop = ⊥

abbrev pub IllTyped : Piece → Stop → Type 0
IllTyped p stop = StopsAt p.inside p.typing stop

-- each declaration and function of the program is well-typed
abbrev pub WellTyped : ProgramTables → s.ProgramTree → Type 0
WellTyped tables program = Each (IsRight IllTyped) (program_pieces tables program)

-- where the program is ill-typed first
abbrev pub TypesStop : ProgramTables → s.ProgramTree → Stop → Type 0
TypesStop tables program stop = FirstRefused IllTyped (program_pieces tables program) stop

-- ---- bodies

abbrev pub member_body : Name → e.FunctionBody → e.MemberBody
member_body name x = record { name = name; function = x }

abbrev pub method_body : ProgramTables → Name → Routine → Option e.MemberBody
method_body tables name r = option_map (member_body name) (result_ok (type_routine tables r))

abbrev pub initializer_body : ProgramTables → TypeId → s.InitTree → Option e.FunctionBody
initializer_body tables id x = result_ok (type_routine tables (initializer_routine id x))

abbrev pub composite_method : ProgramTables → TypeId → s.CompositeMemberTree → Option e.MemberBody
composite_method tables id (s.function x) = method_body tables x.name (method id false x)
composite_method tables id _ = None

abbrev pub composite_initializer : ProgramTables → TypeId → s.CompositeMemberTree → Option e.FunctionBody
composite_initializer tables id (s.init x) = initializer_body tables id x
composite_initializer tables id _ = None

abbrev pub composite_event : ProgramTables → TypeId → s.CompositeMemberTree → Option e.DestroyedBody
composite_event tables id (s.event x) = destroyed_event tables id x
composite_event tables id _ = None

abbrev pub composite_body : ProgramTables → TypeId → s.CompositeTree → e.TypeBody
composite_body tables id x = record {
  id = id;
  initializer = first_some (composite_initializer tables id) x.members;
  functions = filter_map (composite_method tables id) x.members;
  destroyed = first_some (composite_event tables id) x.members;
}

abbrev pub interface_method : ProgramTables → TypeId → s.InterfaceMemberTree → Option e.MemberBody
interface_method tables id (s.interface_function x) = method_body tables x.name (method id true x)
interface_method tables id (s.interface_field x) = None

abbrev pub interface_body : ProgramTables → TypeId → s.InterfaceTree → e.TypeBody
interface_body tables id x = record {
  id = id;
  initializer = None;
  functions = filter_map (interface_method tables id) x.members;
  destroyed = None;
}

abbrev pub contract_method : ProgramTables → TypeId → s.ContractMemberTree → Option e.MemberBody
contract_method tables id (s.contract_function x) = method_body tables x.name (method id false x)
contract_method tables id _ = None

abbrev pub contract_initializer : ProgramTables → TypeId → s.ContractMemberTree → Option e.FunctionBody
contract_initializer tables id (s.contract_init x) = initializer_body tables id x
contract_initializer tables id _ = None

-- the composites and interfaces that a contract declares
abbrev pub nested_body : ProgramTables → TypeId → s.ContractMemberTree → Option e.TypeBody
nested_body tables id (s.composite x) = Some (composite_body tables (inside id x.name) x)
nested_body tables id (s.interface x) = Some (interface_body tables (inside id x.name) x)
nested_body tables id _ = None

abbrev pub contract_bodies : ProgramTables → List s.ContractMemberTree → TypeId → List e.TypeBody
contract_bodies tables members id = record {
  id = id;
  initializer = first_some (contract_initializer tables id) members;
  functions = filter_map (contract_method tables id) members;
  destroyed = None;
} ∷ filter_map (nested_body tables id) members

abbrev pub type_bodies : ProgramTables → s.DeclTree → List e.TypeBody
type_bodies tables (s.contract x) = by_contract tables.contract
  where
    by_contract : Option TypeId → List e.TypeBody
    by_contract None = []
    by_contract (Some id) = contract_bodies tables x.members id
type_bodies tables _ = []

abbrev pub top_body : ProgramTables → s.DeclTree → Option e.MemberBody
top_body tables (s.top_function x) = option_map (member_body x.name) (result_ok (type_top_function tables x))
top_body tables _ = None

abbrev pub transaction_in : ProgramTables → s.DeclTree → Option e.TransactionBody
transaction_in tables (s.transaction x) = Some (transaction_body tables x)
transaction_in tables _ = None

-- The bodies of a program: of its contract, the composites and interfaces in it, the functions outside a contract, and the
-- transaction. What is ill-typed is left out.
abbrev pub program_bodies : ProgramTables → s.ProgramTree → e.ProgramBodies
program_bodies tables program = record {
  types = flat_map (type_bodies tables) program.declarations;
  functions = filter_map (top_body tables) program.declarations;
  transaction = first_some (transaction_in tables) program.declarations;
}
