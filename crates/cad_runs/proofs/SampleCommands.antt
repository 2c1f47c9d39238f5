-- A front end of a few codes, and values in the place of JSON: of these are samples of commands made.
use Rattle.std.specs.Prelude.{ℕ, true, false, ◌==◌, List, [], ◌∷◌, Option, Some, None, Result, Ok, Err, codes, map, if◌then◌else◌}
use Rattle.cad_syntax.specs.Types.{PureType, basic, array, declared}
use Rattle.cad_syntax.specs.declared.address.Address.{Address}
use Rattle.cad_syntax.specs.declared.types.Authorization.TheVariants.{Unauthorized}
use Rattle.cad_syntax.specs.declared.types.Basic.TheVariants as b
use Rattle.cad_types.specs.Below.{below}
use Rattle.cad_types.specs.declared.builtin.Builtin.TheVariants as m
use Rattle.cad_grammar.specs.declared.expression.BinaryOperator.TheVariants as o
use Rattle.cad_grammar.specs.declared.phase.Phase.TheVariants.{Types}
use Rattle.cad_declarations.specs.Builtins.{own_account}
use Rattle.cad_declarations.specs.Tables.{MemberEntry, function}
use Rattle.cad_declarations.specs.Typed as e
use Rattle.cad_declarations.specs.declared.member.MemberAccess.TheVariants as access
use Rattle.cad_declarations.specs.declared.stop.Rejected.{Rejected}
use Rattle.cad_values.specs.Types.{type_of_value}
use Rattle.cad_values.specs.Values.{PureValue}
use Rattle.cad_world.specs.Begin.{empty_world, new_account}
use Rattle.cad_world.specs.State.{Program, World}
use Rattle.cad_evaluation.proofs.SampleParts.{literal, int_type, variable, body, main, function_named, no_tables}
use Rattle.cad_evaluation.proofs.SampleContract.{c_id, r_id, kid_type, contract}
use Rattle.cad_evaluation.proofs.SampleAccount.{call, read, given, do_it, gives, to_storage, program_of, takes_int}
use Rattle.cad_runs.specs.Batch.{batch}
use Rattle.cad_runs.specs.Commands.{Command, Reply}
use Rattle.cad_runs.specs.Surroundings.{Surroundings}

-- ---- programs

abbrev pub main_entry : MemberEntry
main_entry = record { name = main; access = access.All; declared_by = c_id; form = function takes_int true }

-- a script with these parameters, this result and these statements
abbrev pub script_program : List e.VariableEntry → PureType → List e.StatementTree → Program
script_program parameters result all = record {
  tables = record no_tables { functions = main_entry ∷ [] };
  bodies = record { types = []; functions = function_named main (body parameters result all) ∷ []; transaction = None };
}

-- a transaction with an Int, one signer, and a `prepare` with these statements
abbrev pub prepare_body : List e.StatementTree → e.TransactionBody
prepare_body all = record {
  fields = [];
  parameters = variable 0 int_type ∷ [];
  signers = variable 1 own_account ∷ [];
  prepare = Some (e.block 2 (e.statements_of all));
  pre = [];
  before = [];
  execute = None;
  post = [];
  prepare_statements = 0;
  pre_statements = 0;
  execute_statements = 0;
  post_statements = 0;
}

-- transaction(n: Int) { let f: Int; prepare(a) { self.f = n } pre { self.f > 0 } post { before(self.f) == 7 } }
abbrev pub conditions_body : e.TransactionBody
conditions_body = record (prepare_body []) {
  fields = variable 0 int_type ∷ [];
  parameters = variable 1 int_type ∷ [];
  signers = variable 2 own_account ∷ [];
  prepare = Some (e.block 3 (e.statements_of (e.assign 0 (e.variable 0) (e.copy (e.variable 1)) int_type ∷ [])));
  pre = e.test 0 (e.binary o.Greater (e.copy (e.variable 0)) (literal 0)) None ∷ [];
  before = record { at = 0; value = e.copy (e.variable 0) } ∷ [];
  post = e.test 0 (e.binary o.Equal (e.before 0) (literal 7)) None ∷ [];
}

abbrev pub transaction_of : e.TransactionBody → Program
transaction_of body = record { tables = no_tables; bodies = record { types = []; functions = []; transaction = Some body } }

abbrev pub transaction_program : List e.StatementTree → Program
transaction_program all = transaction_of (prepare_body all)

abbrev pub save_for : e.TermTree → PureType → e.StatementTree
save_for t type = do_it (call (read (e.copy (e.variable 1)) m.AccountStorage) m.StorageSave (type ∷ []) (given t type ∷ to_storage ∷ []))

abbrev pub any_type : PureType
any_type = basic b.AnyStruct

-- let f: AnyStruct = &n as &Int; save f
abbrev pub saves_reference : List e.StatementTree
saves_reference = e.declare 0 (variable 2 any_type) (e.borrow (e.variable 0) Unauthorized int_type false false) ∷ save_for (e.copy (e.variable 2)) any_type ∷ []

-- create R(1, nil), beside the contract C
abbrev pub new_r : e.TermTree
new_r = e.create r_id (e.arguments_of (given (literal 1) int_type ∷ given e.nil kid_type ∷ []))

abbrev pub panics : e.StatementTree
panics = do_it (e.builtin m.Panic [] (e.arguments_of (given (e.string (codes "stop")) (basic b.String) ∷ [])))

abbrev pub ints : PureType
ints = array int_type

-- 1 saves its argument, 2 saves it and panics, 3 saves a reference, 7 has a field and conditions; 4 gives its argument, 5 a
-- type, 6 turns for ever; 10 saves a resource, 11 saves one and panics, 12 destroys one; 13 takes an array
abbrev pub other_program : ℕ → Option Program
other_program n =
    if n == 1 then Some (transaction_program (save_for (e.copy (e.variable 0)) int_type ∷ []))
    else (if n == 2 then Some (transaction_program (save_for (e.copy (e.variable 0)) int_type ∷ panics ∷ []))
    else (if n == 3 then Some (transaction_program saves_reference)
    else (if n == 4 then Some (script_program (variable 0 int_type ∷ []) int_type (gives (e.copy (e.variable 0)) int_type ∷ []))
    else (if n == 5 then Some (script_program [] any_type (gives (e.meta int_type) any_type ∷ []))
    else (if n == 6 then Some (script_program [] (basic b.Void) (e.while_loop 0 (e.bool true) (e.block 0 e.no_statements) ∷ []))
    else (if n == 7 then Some (transaction_of conditions_body)
    else (if n == 10 then Some (transaction_program (save_for new_r (declared r_id) ∷ []))
    else (if n == 11 then Some (transaction_program (save_for new_r (declared r_id) ∷ panics ∷ []))
    else (if n == 12 then Some (transaction_program (do_it (e.destroy new_r) ∷ []))
    else (if n == 13 then Some (script_program (variable 0 ints ∷ []) int_type (gives (literal 1) int_type ∷ [])) else None))))))))))

abbrev pub refusal : Rejected
refusal = record { phase = Types; inside = []; at = 0 }

abbrev pub or_refused : Option Program → Result Program Rejected
or_refused None = Err refusal
or_refused (Some p) = Ok p

-- the code of one number; at an address the contract D as its samples have it
abbrev pub load_code : Option Address → List ℕ → Result Program Rejected
load_code (Some a) (n ∷ []) = or_refused (program_of n)
load_code None (n ∷ []) = or_refused (other_program n)
load_code place code = Err refusal

-- ---- surroundings

abbrev pub value_of : PureType → PureValue → Option PureValue
value_of type v = if below [] (type_of_value v) type then Some v else None

abbrev pub surroundings : Surroundings PureValue
surroundings = record {
  load = λ contracts place code. load_code place code;
  value_of_json = λ tables type v. value_of type v;
  json_of_value = λ contracts v. v;
  coding = record { value = λ v. []; type = λ t. [] };
}

-- an account beside the contract C
abbrev pub with_c : World
with_c = record { accounts = new_account ∷ []; contracts = contract ∷ []; next_identity = 1 }

abbrev pub replies_beside : List (Command PureValue) → List (Reply PureValue)
replies_beside cs = map (λ a. a.reply) (batch surroundings with_c cs)

-- the replies, one after another, from the World without accounts
abbrev pub replies : List (Command PureValue) → List (Reply PureValue)
replies cs = map (λ a. a.reply) (batch surroundings empty_world cs)
