-- Contracts that are added to an account: which may be, and their initializer.
use Rattle.std.specs.Prelude.{ℕ, suc, Bool, true, false, not, ◌==◌, List, [], ◌∷◌, ◌++◌, length, map, filter, find, Option, Some, None, option_and_then, if◌then◌else◌}
use Rattle.std.specs.Option.{is_some}
use Rattle.cad_syntax.specs.TypeIds.{same_id}
use Rattle.cad_syntax.specs.Types.{PureType}
use Rattle.cad_syntax.specs.declared.address.Address.{Address}
use Rattle.cad_syntax.specs.declared.text.Name.{Name}
use Rattle.cad_syntax.specs.declared.type_id.TypeId.{TypeId}
use Rattle.cad_declarations.specs.Kinds.{declaration_of}
use Rattle.cad_declarations.specs.Tables.{SignatureType, TypeEntry, MemberEntry}
use Rattle.cad_types.specs.Declarations.{Declaration}
use Rattle.cad_types.specs.Optionals.{fits}
use Rattle.cad_world.specs.Declared.{contract_in, types_of, bodies_of}
use Rattle.cad_world.specs.Fronts.{Front, judged}
use Rattle.cad_world.specs.Labels.{value_in}
use Rattle.cad_world.specs.Rows.{composite, Row, stop, gap, node, Tree, Slot, full, first, back, empty_places, is_full, count_places}
use Rattle.cad_world.specs.Same.{is_so}
use Rattle.cad_world.specs.State.{Contract, Program, State, Action, ok, ◌>>=◌, ◌>>◌, give, fail, guard, require, with_some}
use Rattle.cad_world.specs.Transfers.{come_to}
use Rattle.cad_evaluation.specs.Accounts.{there}
use Rattle.cad_evaluation.specs.Arguments.{argument}
use Rattle.cad_evaluation.specs.Callees.{Calls}
use Rattle.cad_evaluation.specs.Casts.{with_type}
use Rattle.cad_evaluation.specs.Containers.{void_tree}
use Rattle.cad_evaluation.specs.Making.{field_names, initialized, initializer_of}
use Rattle.cad_evaluation.specs.Texts.{text_in, bytes_in}

-- ---- what is added

-- the contract of a name at an address
abbrev pub contract_named : Address → List ℕ → TypeId
contract_named a name = record { address = a; names = record { 0 = name } ∷ [] }

-- a contract has the name; one whose initializer runs has it too
abbrev pub is_taken : List Contract → TypeId → Bool
is_taken contracts id = is_some (contract_in contracts id)

-- those whose initializer doesn't run any more
abbrev pub standing : List Contract → List Contract
standing contracts = filter (λ c. not c.is_running) contracts

-- the program is one contract of that name
abbrev pub is_contract_of : TypeId → Program → Bool
is_contract_of id program = is_so (same_id id) program.tables.contract

-- before its initializer runs
abbrev pub new_contract : TypeId → List ℕ → Program → Contract
new_contract id code program = record { id = id; code = code; program = program; value = stop; is_running = true }

-- what is declared once the contract is there
abbrev pub declarations_with : Contract → List Contract → List Declaration
declarations_with c contracts = map declaration_of (types_of (contracts ++ c ∷ []))

-- ---- arguments

abbrev pub own_entry : TypeId → Program → Option TypeEntry
own_entry id program = find (λ entry. same_id entry.id id) program.tables.types

abbrev pub parameters_in : Option SignatureType → List PureType
parameters_in None = []
parameters_in (Some x) = map (λ p. p.type) x.parameters

-- the types of the initializer's parameters; without a written one there are none
abbrev pub initializer_types : TypeId → Program → List PureType
initializer_types id program = parameters_in (option_and_then (λ entry. entry.initializer) (own_entry id program))

-- each argument fits its parameter, and comes to it; its own type is asked for, so one that names what is gone is 113
abbrev pub all_fitted : List Declaration → List PureType → Row → Action Row
all_fitted k [] stop = give stop
all_fitted k (type ∷ types) (node l n s parts r) =
    with_type (record { optionals = n; shape = s; parts = parts }) (λ own. require 125 (fits k own type)
    (all_fitted k types r >>= (λ rest. give (first (come_to type (record { optionals = n; shape = s; parts = parts })) rest))))
all_fitted k types r = fail 125

abbrev pub fitted : List Declaration → List PureType → Row → Action Row
fitted k types r = require 125 (count_places r == length types) (all_fitted k types r)

-- ---- the initializer

abbrev pub entry_members : Option TypeEntry → List MemberEntry
entry_members None = []
entry_members (Some entry) = entry.members

abbrev pub with_fields : ℕ → List Name → Contract → Contract
with_fields l names c = record c { value = node (l ∷ []) 0 (composite c.id 0 names) (empty_places (length names)) stop }

-- its value has this label, and no field is set
abbrev pub with_empty_value : ℕ → Contract → Contract
with_empty_value l c = with_fields l (field_names (entry_members (own_entry c.id c.program))) c

-- the contract stands among the contracts, and its initializer may run
abbrev pub begin_contract : Contract → Action ℕ
begin_contract c = λ s. ok s.next_label (record s { contracts = s.contracts ++ with_empty_value s.next_label c ∷ []; next_label = suc s.next_label })

abbrev pub stands_now : TypeId → Contract → Contract
stands_now id c = if same_id c.id id then record c { is_running = false } else c

abbrev pub is_whole : Slot → Bool
is_whole (full t) = is_full t.parts
is_whole _ = false

-- every field has been set, and the contract is the account's
abbrev pub finish_contract : TypeId → Action Tree
finish_contract id = λ s.
    guard (is_whole (value_in s.contracts id))
    (λ s. ok void_tree (record s { contracts = map (stands_now id) s.contracts; added = s.added ++ id ∷ [] })) s

abbrev pub initialize_contract : Calls → TypeId → Row → ℕ → Action (Unit {0})
initialize_contract calls id r l = λ s. initialized calls id l r (initializer_of (bodies_of s id)) s

-- the initializer runs on these arguments; code and value join the account after it
abbrev pub install : Calls → Contract → Row → Action Tree
install calls c r = begin_contract c >>= initialize_contract calls c.id r >> finish_contract c.id

-- ---- `contracts.add`

-- 120 where the program isn't one contract of the name, 125 where the arguments don't fit its initializer
abbrev pub install_program : Calls → TypeId → List ℕ → Row → Program → Action Tree
install_program calls id code r program = λ s.
    require 120 (is_contract_of id program)
    (fitted (declarations_with (new_contract id code program) s.contracts) (initializer_types id program) r
    >>= install calls (new_contract id code program)) s

-- 118 where the name is taken, 119 where the code isn't accepted beside the contracts that stand
abbrev pub add_contract : Front → Calls → TypeId → List ℕ → Row → Action Tree
add_contract front calls id code r = λ s.
    require 118 (not (is_taken s.contracts id))
    (judged 119 (front (standing s.contracts) id.address code) (install_program calls id code r)) s

-- the name, the code, and further arguments, which go to the initializer
abbrev pub add : Front → Calls → Row → Address → Action Tree
add front calls r a = there a
    (with_some (option_and_then text_in (argument 0 r)) (λ name.
    with_some (option_and_then bytes_in (argument 1 r)) (λ code.
    add_contract front calls (contract_named a name) code (back 2 r))))
