-- What a program declares, piece by piece in source order, and what typing makes of each.
use Rattle.std.specs.Prelude.{ℕ, Bool, true, false, Some, Result, Ok, Err, List, [], ◌∷◌, ◌++◌, codes, flat_map, ok_or, option_to_list, map, if◌then◌else◌}
use Rattle.cad_syntax.specs.declared.text.Name.{Name}
use Rattle.cad_syntax.specs.declared.type_id.TypeId.{TypeId}
use Rattle.cad_grammar.specs.Trees as s
use Rattle.cad_declarations.specs.Points.{word, transaction_name, below}
use Rattle.cad_declarations.specs.Scopes.{inside}
use Rattle.cad_declarations.specs.Tables.{ProgramTables}
use Rattle.cad_declarations.specs.Typed as e
use Rattle.cad_paths.specs.declared.letter.FieldRule.{FieldRule}
use Rattle.cad_typing.specs.Functions.{Routine, function_routine, initializer_routine, type_routine, type_top_function}
use Rattle.cad_typing.specs.Heads.{contract_is_right, composite_is_right, interface_is_right, enum_is_right, event_is_right, destroyed_event}
use Rattle.cad_typing.specs.Statements.{◌>>=◌}
use Rattle.cad_typing.specs.Transactions.{declaration_is_right, transaction_rules, transaction_body, type_prepare, type_pre, type_execute, type_post}

-- what the phases behind typing judge
pub data PieceBody : Type 0 where
  -- a contract, struct or resource, whose fields its initializer sets; or an interface
  type_piece : TypeId → PieceBody
  function_piece : e.FunctionBody → PieceBody
  -- the initializer of this type
  initializer_piece : TypeId → e.FunctionBody → PieceBody
  -- with the rules of its fields
  transaction_piece : List FieldRule → e.TransactionBody → PieceBody
  -- the event `ResourceDestroyed`
  destroyed_piece : e.DestroyedBody → PieceBody
  -- an event, an enum, or a part of a transaction, in which nothing is left to judge
  plain_piece : PieceBody

-- a declaration or function by its names, and what it is, or the number of its first statement that is ill-typed
pub record Piece : Type 0 where
  pub inside : List Name
  pub typing : Result PieceBody ℕ

abbrev pub piece : List Name → Result PieceBody ℕ → Piece
piece inside typing = record { inside = inside; typing = typing }

-- a declaration has the number 0
abbrev pub declaration : List Name → Bool → PieceBody → Piece
declaration inside is_right body = piece inside (if is_right then Ok body else Err 0)

abbrev pub function : Result e.FunctionBody ℕ → Result PieceBody ℕ
function typing = typing >>= (λ x. Ok (function_piece x))

abbrev pub initializer : TypeId → Result e.FunctionBody ℕ → Result PieceBody ℕ
initializer id typing = typing >>= (λ x. Ok (initializer_piece id x))

abbrev pub routine_piece : ProgramTables → Routine → Piece
routine_piece tables r = piece r.inside (function (type_routine tables r))

abbrev pub initializer_of : ProgramTables → TypeId → Routine → Piece
initializer_of tables id r = piece r.inside (initializer id (type_routine tables r))

-- a function that stands in a type
abbrev pub method : TypeId → Bool → s.FunctionTree → Routine
method id in_interface x = function_routine (below id.names x.name) (Some id) in_interface x

-- ---- what contracts declare

abbrev pub composite_member_pieces : ProgramTables → TypeId → s.CompositeMemberTree → List Piece
composite_member_pieces tables id (s.field x) = []
composite_member_pieces tables id (s.function x) = routine_piece tables (method id false x) ∷ []
composite_member_pieces tables id (s.init x) = initializer_of tables id (initializer_routine id x) ∷ []
composite_member_pieces tables id (s.event x) =
    piece (below id.names x.name) (ok_or (destroyed_event tables id x) 0 >>= (λ d. Ok (destroyed_piece d))) ∷ []

-- a composite, whose fields count to it, and then its functions
abbrev pub composite_pieces : ProgramTables → TypeId → s.CompositeTree → List Piece
composite_pieces tables id x =
    declaration id.names (composite_is_right tables x) (type_piece id) ∷ flat_map (composite_member_pieces tables id) x.members

abbrev pub interface_member_pieces : ProgramTables → TypeId → s.InterfaceMemberTree → List Piece
interface_member_pieces tables id (s.interface_field x) = []
interface_member_pieces tables id (s.interface_function x) = routine_piece tables (method id true x) ∷ []

abbrev pub interface_pieces : ProgramTables → TypeId → s.InterfaceTree → List Piece
interface_pieces tables id x =
    declaration id.names (interface_is_right tables x) (type_piece id) ∷ flat_map (interface_member_pieces tables id) x.members

abbrev pub contract_member_pieces : ProgramTables → TypeId → s.ContractMemberTree → List Piece
contract_member_pieces tables id (s.contract_field x) = []
contract_member_pieces tables id (s.contract_function x) = routine_piece tables (method id false x) ∷ []
contract_member_pieces tables id (s.contract_init x) = initializer_of tables id (initializer_routine id x) ∷ []
contract_member_pieces tables id (s.composite x) = composite_pieces tables (inside id x.name) x
contract_member_pieces tables id (s.interface x) = interface_pieces tables (inside id x.name) x
contract_member_pieces tables id (s.contract_event x) = declaration (below id.names x.name) (event_is_right tables x) plain_piece ∷ []
contract_member_pieces tables id (s.enumeration x) = declaration (below id.names x.name) (enum_is_right tables x) plain_piece ∷ []
contract_member_pieces tables id (s.entitlement x) = []
contract_member_pieces tables id (s.mapping x) = []

abbrev pub contract_pieces : ProgramTables → s.ContractTree → TypeId → List Piece
contract_pieces tables x id =
    declaration id.names (contract_is_right tables x.members) (type_piece id) ∷ flat_map (contract_member_pieces tables id) x.members

-- ---- programs

-- a part of a transaction
abbrev pub part : {A : Type 0} → List ℕ → Result A ℕ → Piece
part text typing = piece (word text ∷ []) (typing >>= (λ x. Ok plain_piece))

-- a transaction's parameters and fields, and then its parts
abbrev pub transaction_pieces : ProgramTables → s.TransactionTree → List Piece
transaction_pieces tables x =
    declaration (transaction_name ∷ []) (declaration_is_right tables x) (transaction_piece (transaction_rules tables x) (transaction_body tables x))
    ∷ map (λ p. part (codes "prepare") (type_prepare tables x p)) (option_to_list x.prepare)
    ++ part (codes "pre") (type_pre tables x)
    ∷ map (λ body. part (codes "execute") (type_execute tables x body)) (option_to_list x.execute)
    ++ part (codes "post") (type_post tables x) ∷ []

abbrev pub declaration_pieces : ProgramTables → s.DeclTree → List Piece
declaration_pieces tables (s.contract x) = flat_map (contract_pieces tables x) (option_to_list tables.contract)
declaration_pieces tables (s.top_function x) = piece (x.name ∷ []) (function (type_top_function tables x)) ∷ []
declaration_pieces tables (s.transaction x) = transaction_pieces tables x

-- All declarations and functions of a program, in source order.
abbrev pub program_pieces : ProgramTables → s.ProgramTree → List Piece
program_pieces tables program = flat_map (declaration_pieces tables) program.declarations
