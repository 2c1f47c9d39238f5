-- The bodies of a program, gathered from its pieces: along the program, each declaration takes its own pieces from the front.
use Rattle.std.specs.Prelude.{ℕ, Option, Some, None, Result, Ok, Err, List, [], ◌∷◌, ◌++◌, option_map, option_to_list}
use Rattle.std.specs.Option.{option_or}
use Rattle.cad_syntax.specs.declared.text.Name.{Name}
use Rattle.cad_syntax.specs.declared.type_id.TypeId.{TypeId}
use Rattle.cad_grammar.specs.Trees as s
use Rattle.cad_declarations.specs.Scopes.{inside}
use Rattle.cad_declarations.specs.Typed as e
use Rattle.cad_typing.specs.Pieces as p
use Rattle.cad_typing.specs.Pieces.{Piece, PieceBody}
use Rattle.cad_typing.specs.Programs.{member_body}

-- ---- single pieces

abbrev pub function_in : Result PieceBody ℕ → Option e.FunctionBody
function_in (Ok (p.function_piece f)) = Some f
function_in (Ok (p.initializer_piece id f)) = Some f
function_in _ = None

abbrev pub destroyed_in : Result PieceBody ℕ → Option e.DestroyedBody
destroyed_in (Ok (p.destroyed_piece d)) = Some d
destroyed_in _ = None

abbrev pub transaction_in : Result PieceBody ℕ → Option e.TransactionBody
transaction_in (Ok (p.transaction_piece rules t)) = Some t
transaction_in _ = None

-- the body of the first piece
abbrev pub first_function : List Piece → Option e.FunctionBody
first_function [] = None
first_function (p ∷ ps) = function_in p.typing

abbrev pub first_destroyed : List Piece → Option e.DestroyedBody
first_destroyed [] = None
first_destroyed (p ∷ ps) = destroyed_in p.typing

abbrev pub first_transaction : List Piece → Option e.TransactionBody
first_transaction [] = None
first_transaction (p ∷ ps) = transaction_in p.typing

abbrev pub others : List Piece → List Piece
others [] = []
others (p ∷ ps) = ps

-- where a part is written, it has a piece
abbrev pub others_if : {X : Type 0} → Option X → List Piece → List Piece
others_if None left = left
others_if (Some x) left = others left

-- ---- types

-- a type whose members are being gathered, and the pieces that are left
pub record Walk : Type 0 where
  pub body : e.TypeBody
  pub left : List Piece

abbrev pub walk : e.TypeBody → List Piece → Walk
walk body left = record { body = body; left = left }

abbrev pub empty_body : TypeId → e.TypeBody
empty_body id = record { id = id; initializer = None; functions = []; destroyed = None }

-- a function, the first initializer and the first event count
abbrev pub add_function : Name → Option e.FunctionBody → e.TypeBody → e.TypeBody
add_function name x t = record t { functions = t.functions ++ option_to_list (option_map (member_body name) x) }

abbrev pub add_initializer : Option e.FunctionBody → e.TypeBody → e.TypeBody
add_initializer x t = record t { initializer = option_or t.initializer x }

abbrev pub add_destroyed : Option e.DestroyedBody → e.TypeBody → e.TypeBody
add_destroyed x t = record t { destroyed = option_or t.destroyed x }

abbrev pub take_function : Name → Walk → Walk
take_function name w = walk (add_function name (first_function w.left) w.body) (others w.left)

abbrev pub take_initializer : Walk → Walk
take_initializer w = walk (add_initializer (first_function w.left) w.body) (others w.left)

abbrev pub take_destroyed : Walk → Walk
take_destroyed w = walk (add_destroyed (first_destroyed w.left) w.body) (others w.left)

abbrev pub composite_member : s.CompositeMemberTree → Walk → Walk
composite_member (s.field x) w = w
composite_member (s.function x) w = take_function x.name w
composite_member (s.init x) w = take_initializer w
composite_member (s.event x) w = take_destroyed w

abbrev pub composite_members : List s.CompositeMemberTree → Walk → Walk
composite_members [] w = w
composite_members (x ∷ xs) w = composite_members xs (composite_member x w)

abbrev pub interface_member : s.InterfaceMemberTree → Walk → Walk
interface_member (s.interface_field x) w = w
interface_member (s.interface_function x) w = take_function x.name w

abbrev pub interface_members : List s.InterfaceMemberTree → Walk → Walk
interface_members [] w = w
interface_members (x ∷ xs) w = interface_members xs (interface_member x w)

-- its own piece, and then those of its members
abbrev pub composite : TypeId → s.CompositeTree → List Piece → Walk
composite id x left = composite_members x.members (walk (empty_body id) (others left))

abbrev pub interface : TypeId → s.InterfaceTree → List Piece → Walk
interface id x left = interface_members x.members (walk (empty_body id) (others left))

-- ---- the contract

pub record ContractWalk : Type 0 where
  -- the contract itself
  pub own : Walk
  -- the types that are declared in it
  pub nested : List e.TypeBody

abbrev pub contract_walk : Walk → List e.TypeBody → ContractWalk
contract_walk own nested = record { own = own; nested = nested }

-- pieces that give no body
abbrev pub pass : Walk → Walk
pass w = walk w.body (others w.left)

-- a nested type with what it leaves
abbrev pub add_nested : ContractWalk → Walk → ContractWalk
add_nested w x = contract_walk (walk w.own.body x.left) (w.nested ++ x.body ∷ [])

abbrev pub contract_member : TypeId → s.ContractMemberTree → ContractWalk → ContractWalk
contract_member id (s.contract_field x) w = w
contract_member id (s.contract_function x) w = contract_walk (take_function x.name w.own) w.nested
contract_member id (s.contract_init x) w = contract_walk (take_initializer w.own) w.nested
contract_member id (s.composite x) w = add_nested w (composite (inside id x.name) x w.own.left)
contract_member id (s.interface x) w = add_nested w (interface (inside id x.name) x w.own.left)
contract_member id (s.contract_event x) w = contract_walk (pass w.own) w.nested
contract_member id (s.enumeration x) w = contract_walk (pass w.own) w.nested
contract_member id (s.entitlement x) w = w
contract_member id (s.mapping x) w = w

abbrev pub contract_members : TypeId → List s.ContractMemberTree → ContractWalk → ContractWalk
contract_members id [] w = w
contract_members id (x ∷ xs) w = contract_members id xs (contract_member id x w)

abbrev pub contract : TypeId → s.ContractTree → List Piece → ContractWalk
contract id x left = contract_members id x.members (contract_walk (walk (empty_body id) (others left)) [])

-- ---- programs

pub record ProgramWalk : Type 0 where
  pub bodies : e.ProgramBodies
  pub left : List Piece

abbrev pub program_walk : e.ProgramBodies → List Piece → ProgramWalk
program_walk bodies left = record { bodies = bodies; left = left }

abbrev pub no_bodies : e.ProgramBodies
no_bodies = record { types = []; functions = []; transaction = None }

abbrev pub add_types : List e.TypeBody → e.ProgramBodies → e.ProgramBodies
add_types types b = record b { types = b.types ++ types }

abbrev pub add_top_function : Name → Option e.FunctionBody → e.ProgramBodies → e.ProgramBodies
add_top_function name x b = record b { functions = b.functions ++ option_to_list (option_map (member_body name) x) }

abbrev pub add_transaction : Option e.TransactionBody → e.ProgramBodies → e.ProgramBodies
add_transaction x b = record b { transaction = option_or b.transaction x }

-- the contract, and then the types in it
abbrev pub add_contract : ContractWalk → e.ProgramBodies → e.ProgramBodies
add_contract w b = add_types (w.own.body ∷ w.nested) b

-- the pieces of a transaction behind that of its declaration
abbrev pub parts_left : s.TransactionTree → List Piece → List Piece
parts_left x left = others (others_if x.execute (others (others_if x.prepare left)))

abbrev pub top_contract : Option TypeId → s.ContractTree → ProgramWalk → ProgramWalk
top_contract None x w = w
top_contract (Some id) x w = program_walk (add_contract (contract id x w.left) w.bodies) (contract id x w.left).own.left

abbrev pub declaration : Option TypeId → s.DeclTree → ProgramWalk → ProgramWalk
declaration id (s.contract x) w = top_contract id x w
declaration id (s.top_function x) w = program_walk (add_top_function x.name (first_function w.left) w.bodies) (others w.left)
declaration id (s.transaction x) w = program_walk (add_transaction (first_transaction w.left) w.bodies) (parts_left x (others w.left))

abbrev pub declarations : Option TypeId → List s.DeclTree → ProgramWalk → ProgramWalk
declarations id [] w = w
declarations id (x ∷ xs) w = declarations id xs (declaration id x w)

-- what the pieces of a program give
abbrev pub gathered : Option TypeId → s.ProgramTree → List Piece → e.ProgramBodies
gathered id program pieces = (declarations id program.declarations (program_walk no_bodies pieces)).bodies
