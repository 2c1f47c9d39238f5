-- An account, a front end of three codes, and blocks over a reference to the account: of these are samples of services made.
use Rattle.std.specs.Prelude.{ℕ, Bool, true, false, ◌==◌, List, [], ◌∷◌, Option, Some, None, codes, if◌then◌else◌}
use Rattle.cad_syntax.specs.Types.{PureType, basic, optional, array, declared, reference, capability, capability_of}
use Rattle.cad_syntax.specs.declared.address.Address.{Address}
use Rattle.cad_syntax.specs.declared.address.Domain.TheVariants as d
use Rattle.cad_syntax.specs.declared.kind.Kind.TheVariants as k
use Rattle.cad_syntax.specs.declared.text.Name.{Name}
use Rattle.cad_syntax.specs.declared.type_id.TypeId.{TypeId}
use Rattle.cad_syntax.specs.declared.types.Authorization.TheVariants.{Unauthorized}
use Rattle.cad_syntax.specs.declared.types.Basic.TheVariants as b
use Rattle.cad_types.specs.declared.builtin.Builtin.{Builtin}
use Rattle.cad_types.specs.declared.builtin.Builtin.TheVariants as m
use Rattle.cad_types.specs.declared.declared.Sort.TheVariants as sort
use Rattle.cad_declarations.specs.Builtins.{own_account}
use Rattle.cad_declarations.specs.Tables.{TypeEntry, SignatureType}
use Rattle.cad_declarations.specs.Typed as e
use Rattle.cad_declarations.specs.declared.member.MemberAccess.TheVariants as access
use Rattle.cad_values.specs.Values as v
use Rattle.cad_world.specs.Fronts as fronts
use Rattle.cad_world.specs.Begin.{new_account}
use Rattle.cad_world.specs.Rows.{Tree, alone}
use Rattle.cad_world.specs.State.{Account, Contract, Program, State, Outcome, ok}
use Rattle.cad_evaluation.specs.Accounts.{account_reference}
use Rattle.cad_evaluation.specs.Callees.{function, Front}
use Rattle.cad_evaluation.specs.Evaluation.{calls_to}
use Rattle.cad_evaluation.proofs.SampleParts.{num, literal, int_type, named, variable, body, main, function_named, no_tables, script, state, Seen, seen}
use Rattle.cad_evaluation.proofs.SampleContract.{contract, n_name, field_of, entry}

-- ---- the contract D: a field n, and an initializer that takes it

abbrev pub d_id : TypeId
d_id = record { address = record { 0 = 1 }; names = named (codes "D") ∷ [] }

abbrev pub takes_int : SignatureType
takes_int = record { is_view = false; parameters = record { label = None; name = n_name; type = int_type } ∷ []; result = basic b.Void }

abbrev pub d_entry : TypeEntry
d_entry = record (entry d_id sort.Contract [] (field_of d_id n_name access.All int_type ∷ [])) { initializer = Some takes_int }

-- D with this initializer
abbrev pub d_program : List e.StatementTree → Program
d_program init = record {
  tables = record no_tables { contract = Some d_id; types = d_entry ∷ [] };
  bodies = record {
    types = record { id = d_id; initializer = Some (body (variable 0 int_type ∷ []) (basic b.Void) init); functions = []; destroyed = None } ∷ [];
    functions = [];
    transaction = None;
  };
}

abbrev pub sets_n : e.StatementTree
sets_n = e.assign 0 (e.field e.self (declared d_id) n_name) (e.copy (e.variable 0)) int_type

abbrev pub d_n : e.TermTree
d_n = e.on (e.contract d_id) (e.get n_name Unauthorized)

-- ---- members of the account that is variable 0

abbrev pub place : e.TermTree → e.PlaceTree
place t = e.target t

abbrev pub read : e.TermTree → Builtin → e.TermTree
read t member = e.on (place t) (e.builtin_field member)

abbrev pub signer : e.TermTree
signer = e.copy (e.variable 0)

abbrev pub call : e.TermTree → Builtin → List PureType → List e.TargetedTerm → e.TermTree
call t member types all = e.on (place t) (e.builtin_call member types (e.arguments_of all))

abbrev pub given : e.TermTree → PureType → e.TargetedTerm
given t type = record { value = t; target = type }

abbrev pub storage_path : e.TermTree
storage_path = e.path (record { domain = d.Storage; identifier = named (codes "x") })

abbrev pub public_path : e.TermTree
public_path = e.path (record { domain = d.Public; identifier = named (codes "x") })

abbrev pub to_storage : e.TargetedTerm
to_storage = given storage_path (basic b.StoragePath)

abbrev pub to_public : e.TargetedTerm
to_public = given public_path (basic b.PublicPath)

abbrev pub save : e.TermTree → PureType → e.TermTree
save t type = call (read signer m.AccountStorage) m.StorageSave (type ∷ []) (given t type ∷ to_storage ∷ [])

abbrev pub load : PureType → e.TermTree
load type = call (read signer m.AccountStorage) m.StorageLoad (type ∷ []) (to_storage ∷ [])

abbrev pub stored : Builtin → List PureType → e.TermTree
stored member types = call (read signer m.AccountStorage) member types (to_storage ∷ [])

abbrev pub capabilities : e.TermTree
capabilities = read signer m.AccountCapabilities

abbrev pub controllers : e.TermTree
controllers = read capabilities m.CapabilitiesStorage

abbrev pub int_reference : PureType
int_reference = reference Unauthorized int_type

abbrev pub int_capability : PureType
int_capability = capability_of int_reference

abbrev pub issue : e.TermTree
issue = call controllers m.StorageCapabilitiesIssue (int_reference ∷ []) (to_storage ∷ [])

-- the capability in a variable
abbrev pub publish : ℕ → e.TermTree
publish n = call capabilities m.CapabilitiesPublish [] (given (e.copy (e.variable n)) capability ∷ to_public ∷ [])

abbrev pub controller : e.TermTree
controller = e.force (call controllers m.StorageCapabilitiesGetController [] (given (e.number (num k.UInt64 1)) (basic (b.Number k.UInt64)) ∷ []))

-- `name` and the code of this number, with arguments
abbrev pub add : List ℕ → ℕ → List e.TargetedTerm → e.TermTree
add name code more = call (read signer m.AccountContracts) m.ContractsAdd []
    (given (e.string name) (basic b.String) ∷ given (e.array (basic (b.Number k.UInt8)) (e.terms (e.number (num k.UInt8 code)) e.no_terms)) (array (basic (b.Number k.UInt8))) ∷ more)

abbrev pub do_it : e.TermTree → e.StatementTree
do_it t = e.expression 0 t

abbrev pub gives : e.TermTree → PureType → e.StatementTree
gives t type = e.return_value 0 t type

-- ---- runs

-- code 1 is D; 2 is D whose initializer adds a D; 3 is D that reads its field before it is set; else nothing
abbrev pub adds_itself : e.StatementTree
adds_itself = do_it (e.on (place (read (e.on e.self (e.builtin_field m.ContractAccount)) m.AccountContracts)) (e.builtin_call m.ContractsAdd [] (e.arguments_of (given (e.string (codes "D")) (basic b.String) ∷ given (e.array (basic (b.Number k.UInt8)) e.no_terms) (array (basic (b.Number k.UInt8))) ∷ []))))

abbrev pub program_of : ℕ → Option Program
program_of n =
    if n == 1 then Some (d_program (sets_n ∷ []))
    else (if n == 2 then Some (d_program (adds_itself ∷ sets_n ∷ []))
    else (if n == 3 then Some (d_program (do_it d_n ∷ sets_n ∷ [])) else None))

abbrev pub front : Front
front contracts address (n ∷ []) = fronts.said (program_of n)
front contracts address code = fronts.refused

-- `main` over a reference to the account with all rights
abbrev pub main_body : PureType → List e.StatementTree → e.FunctionBody
main_body result all = record (body (variable 0 own_account ∷ []) result all) { body = Some (e.block 1 (e.statements_of all)) }

abbrev pub first_address : Address
first_address = record { 0 = 1 }

-- with this account, beside the contract C
abbrev pub run_in : Account → PureType → List e.StatementTree → ℕ → Outcome Tree
run_in account result all units =
    calls_to front units (function main) (alone (account_reference own_account first_address))
    (state (account ∷ []) (contract ∷ []) (script (function_named main (main_body result all) ∷ [])) units)

-- the value and the units left, of 30
abbrev pub with_account : PureType → List e.StatementTree → Seen
with_account result all = seen (run_in new_account result all 30)
