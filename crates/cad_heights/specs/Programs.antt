-- The highest expressions of declarations, and whether one of a program is too high.
use Rattle.std.specs.Prelude.{ℕ, max, nat_lt, Bool, List, [], ◌∷◌, Option, Some, None}
use Rattle.std.specs.List.{list_any}
use Rattle.cad_grammar.specs.Trees.{StmtTree, stmts_of, ConditionTree, test, emitted, FunctionBlockTree, EventParameterTree, CompositeMemberTree, field, function, init, event, InterfaceMemberTree, interface_field, interface_function, ContractMemberTree, contract_field, contract_function, contract_init, composite, interface, contract_event, enumeration, entitlement, mapping, PrepareTree, TransactionTree, DeclTree, contract, top_function, transaction, ProgramTree}
use Rattle.cad_heights.specs.Heights.{height, optional_height, highest_of}

-- the most levels that an expression may have
abbrev pub most_levels : ℕ
most_levels = 256

-- the greatest of what the members of a list have
abbrev pub greatest : {A : Type 0} → (A → ℕ) → List A → ℕ
greatest f [] = 0
greatest f (x ∷ xs) = max (f x) (greatest f xs)

abbrev pub within_some : {A : Type 0} → (A → ℕ) → Option A → ℕ
within_some f None = 0
within_some f (Some a) = f a

abbrev pub condition_height : ConditionTree → ℕ
condition_height (test e message) = max (height e) (optional_height message)
condition_height (emitted e) = height e

abbrev pub conditions_height : Option (List ConditionTree) → ℕ
conditions_height o = within_some (greatest condition_height) o

abbrev pub body_height : List StmtTree → ℕ
body_height all = highest_of (stmts_of all)

abbrev pub block_height : FunctionBlockTree → ℕ
block_height b = max (conditions_height b.pre) (max (conditions_height b.post) (body_height b.body))

abbrev pub blocks_height : Option FunctionBlockTree → ℕ
blocks_height o = within_some block_height o

abbrev pub parameter_height : EventParameterTree → ℕ
parameter_height p = optional_height p.default_value

abbrev pub composite_member_height : CompositeMemberTree → ℕ
composite_member_height (field x) = 0
composite_member_height (function x) = blocks_height x.block
composite_member_height (init x) = block_height x.block
composite_member_height (event x) = greatest parameter_height x.parameters

abbrev pub interface_member_height : InterfaceMemberTree → ℕ
interface_member_height (interface_field x) = 0
interface_member_height (interface_function x) = blocks_height x.block

abbrev pub contract_member_height : ContractMemberTree → ℕ
contract_member_height (contract_function x) = blocks_height x.block
contract_member_height (contract_init x) = block_height x.block
contract_member_height (composite x) = greatest composite_member_height x.members
contract_member_height (interface x) = greatest interface_member_height x.members
contract_member_height (contract_event x) = greatest parameter_height x.parameters
contract_member_height _ = 0

abbrev pub prepare_height : PrepareTree → ℕ
prepare_height p = body_height p.body

abbrev pub transaction_height : TransactionTree → ℕ
transaction_height t =
    max (within_some prepare_height t.prepare) (max (conditions_height t.pre) (max (within_some body_height t.execute) (conditions_height t.post)))

-- the highest expression of a declaration
abbrev pub declaration_height : DeclTree → ℕ
declaration_height (contract x) = greatest contract_member_height x.members
declaration_height (top_function x) = blocks_height x.block
declaration_height (transaction t) = transaction_height t

-- whether an expression of a program has more levels
abbrev pub is_too_high : ProgramTree → Bool
is_too_high p = list_any (λ d. nat_lt most_levels (declaration_height d)) p.declarations
