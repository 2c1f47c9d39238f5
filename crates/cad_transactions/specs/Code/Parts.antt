-- Transactions, with what is in scope in them as it was made once.
use Rattle.std.specs.Prelude.{ℕ, Option, Some, None, Result, Err, List, [], length, option_map, if◌then◌else◌}
use Rattle.std.specs.Result.{result_ok, result_unwrap_or}
use Rattle.cad_grammar.specs.Trees as s
use Rattle.cad_declarations.specs.Tables.{ProgramTables}
use Rattle.cad_declarations.specs.Typed as e
use Rattle.cad_typing.specs.Conditions.{type_conditions, values_at_entry, written_conditions}
use Rattle.cad_typing.specs.Environments.{Environment, Local, Part, prepare_body, execute_body, precondition, postcondition}
use Rattle.cad_typing.specs.Functions.{count_body, type_body}
use Rattle.cad_typing.specs.Locals.{entries_of}
use Rattle.cad_typing.specs.Transactions.{own_fields, own_parameters, signers, are_signers, without_result, prepare_statements}

abbrev pub part_with : ProgramTables → List Local → Part → List (List Local) → ℕ → Environment
part_with tables fields part scopes in_use = record {
  tables = tables;
  within = None;
  transaction_fields = Some fields;
  part = part;
  scopes = scopes;
  in_use = in_use;
  befores = 0;
}

-- what typing makes of the parts of a transaction
pub record TransactionTyping : Type 0 where
  pub prepare : Option (Result e.BlockTree ℕ)
  pub pre : Result (List e.ConditionBody) ℕ
  pub execute : Option (Result e.BlockTree ℕ)
  pub post : Result (List e.ConditionBody) ℕ

-- the variables of a transaction
pub record TransactionLocals : Type 0 where
  pub fields : List Local
  pub parameters : List Local
  pub signers : List Local

abbrev pub well_typed : {A : Type 0} → Option (Result A ℕ) → Option A
well_typed None = None
well_typed (Some r) = result_ok r

abbrev pub transaction_with : Environment → Environment → s.TransactionTree → TransactionLocals → TransactionTyping → e.TransactionBody
transaction_with before after x l t = record {
  fields = entries_of before l.fields;
  parameters = entries_of before l.parameters;
  signers = entries_of before l.signers;
  prepare = well_typed t.prepare;
  pre = result_unwrap_or t.pre [];
  before = values_at_entry after 0 (written_conditions x.post);
  execute = well_typed t.execute;
  post = result_unwrap_or t.post [];
  prepare_statements = prepare_statements x.prepare;
  pre_statements = length (written_conditions x.pre);
  execute_statements = count_body x.execute;
  post_statements = length (written_conditions x.post);
}

-- `prepare` in its environment
abbrev pub prepare_with : ProgramTables → Environment → s.PrepareTree → Result e.BlockTree ℕ
prepare_with tables env x = if are_signers tables x.parameters then type_body (without_result env) 0 x.body else Err 0

abbrev pub execute_with : Environment → List s.StmtTree → Result e.BlockTree ℕ
execute_with env body = type_body (without_result env) 0 body

abbrev pub locals_in : ProgramTables → s.TransactionTree → TransactionLocals
locals_in tables x = record { fields = own_fields tables x; parameters = own_parameters tables x; signers = signers tables x }

-- with these variables and scopes, of which so many are in use before `prepare`, and in it
abbrev pub typing_with : ProgramTables → s.TransactionTree → List Local → List (List Local) → List (List Local) → ℕ → ℕ → TransactionTyping
typing_with tables x fields outer inner count signed = record {
  prepare = option_map (prepare_with tables (part_with tables fields prepare_body inner signed)) x.prepare;
  pre = type_conditions (part_with tables fields precondition outer count) 0 (written_conditions x.pre);
  execute = option_map (execute_with (part_with tables fields execute_body outer count)) x.execute;
  post = type_conditions (part_with tables fields (postcondition None) outer count) 0 (written_conditions x.post);
}

-- the body, where parts were typed so
abbrev pub body_with : ProgramTables → s.TransactionTree → TransactionLocals → List (List Local) → TransactionTyping → ℕ → e.TransactionBody
body_with tables x l outer t count =
    transaction_with (part_with tables l.fields precondition outer count) (part_with tables l.fields (postcondition None) outer count) x l t
