-- Transactions: their elaborated body, and where each part is ill-typed.
use Rattle.std.specs.Prelude.{ℕ, suc, ◌+◌, Bool, true, false, not, ◌&&◌, ◌||◌, Option, Some, None, Result, Err, List, [], ◌∷◌, length, map, option_and_then, if◌then◌else◌}
use Rattle.std.specs.Result.{result_ok, result_unwrap_or}
use Rattle.std.specs.List.{list_all}
use Rattle.cad_syntax.specs.Types.{PureType, basic, reference}
use Rattle.cad_syntax.specs.declared.types.Basic.{Basic}
use Rattle.cad_syntax.specs.declared.types.Basic.TheVariants as b
use Rattle.cad_grammar.specs.Trees as s
use Rattle.cad_types.specs.Declarations.{resource}
use Rattle.cad_declarations.specs.Entries.{type_entry}
use Rattle.cad_declarations.specs.Kinds.{kinds_of, scope_of}
use Rattle.cad_declarations.specs.Points.{option_parameters}
use Rattle.cad_declarations.specs.Scopes.{Scope}
use Rattle.cad_declarations.specs.Tables.{ProgramTables}
use Rattle.cad_declarations.specs.Typed as e
use Rattle.cad_paths.specs.declared.letter.FieldRule.{FieldRule}
use Rattle.cad_typing.specs.Conditions.{type_conditions, values_at_entry, written_conditions}
use Rattle.cad_typing.specs.Environments.{Environment, Local, Part, prepare_body, execute_body, precondition, postcondition}
use Rattle.cad_typing.specs.Functions.{is_annotated, are_parameters, parameter_types, type_body, count_body}
use Rattle.cad_typing.specs.Locals.{entries_of, locals_from, is_var_word}
use Rattle.cad_typing.specs.Statements.{Surroundings}
use Rattle.cad_typing.specs.Types.{void, is_importable}

-- ---- fields and parameters

-- the parameters are importable; the fields have types that are rightly formed
abbrev pub declaration_is_right : ProgramTables → s.TransactionTree → Bool
declaration_is_right tables x =
    are_parameters (scope_of tables) (option_parameters x.parameters)
    && (list_all (λ p. is_importable (kinds_of tables) p.type) (parameter_types (scope_of tables) (option_parameters x.parameters))
    && list_all (λ f. is_annotated (scope_of tables) f.annotation) x.fields)

-- fields, with numbers from this one
abbrev pub field_locals : Scope → ℕ → List s.TransactionFieldTree → List Local
field_locals scope n [] = []
field_locals scope n (f ∷ fs) =
    record { number = n; name = f.name; type = type_entry scope f.annotation.written; is_var = is_var_word f.kind }
    ∷ field_locals scope (suc n) fs

abbrev pub own_fields : ProgramTables → s.TransactionTree → List Local
own_fields tables x = field_locals (scope_of tables) 0 x.fields

abbrev pub own_parameters : ProgramTables → s.TransactionTree → List Local
own_parameters tables x = locals_from (length x.fields) (parameter_types (scope_of tables) (option_parameters x.parameters))

-- how many fields and parameters there are
abbrev pub own_count : s.TransactionTree → ℕ
own_count x = length x.fields + length (option_parameters x.parameters)

abbrev pub signer_parameters : Option s.PrepareTree → List s.ParameterTree
signer_parameters None = []
signer_parameters (Some p) = p.parameters

abbrev pub signers : ProgramTables → s.TransactionTree → List Local
signers tables x = locals_from (own_count x) (parameter_types (scope_of tables) (signer_parameters x.prepare))

-- a field is set once where it is declared by `let` or is of resource type
abbrev pub field_rule : ProgramTables → s.TransactionFieldTree → FieldRule
field_rule tables f = record {
  name = f.name;
  is_once = not (is_var_word f.kind) || resource (kinds_of tables) (type_entry (scope_of tables) f.annotation.written);
}

abbrev pub transaction_rules : ProgramTables → s.TransactionTree → List FieldRule
transaction_rules tables x = map (field_rule tables) x.fields

-- ---- parts

-- a part of the transaction, with these scopes
abbrev pub part_environment : ProgramTables → s.TransactionTree → Part → List (List Local) → ℕ → Environment
part_environment tables x part scopes in_use = record {
  tables = tables;
  within = None;
  transaction_fields = Some (own_fields tables x);
  part = part;
  scopes = scopes;
  in_use = in_use;
  befores = 0;
}

-- the transaction's parameters are in scope in each part
abbrev pub part_in : ProgramTables → s.TransactionTree → Part → Environment
part_in tables x part = part_environment tables x part (own_parameters tables x ∷ []) (own_count x)

-- those of `prepare` in a scope inside theirs
abbrev pub prepare_environment : ProgramTables → s.TransactionTree → Environment
prepare_environment tables x =
    part_environment tables x prepare_body (signers tables x ∷ own_parameters tables x ∷ []) (own_count x + length (signer_parameters x.prepare))

abbrev pub without_result : Environment → Surroundings
without_result env = record { env = env; result = void; may_break = false; may_continue = false }

abbrev pub is_account_basic : Basic → Bool
is_account_basic b.Account = true
is_account_basic _ = false

-- `&Account`, with any authorization or none
abbrev pub is_account_reference : PureType → Bool
is_account_reference (reference a (basic t)) = is_account_basic t
is_account_reference _ = false

abbrev pub are_signers : ProgramTables → List s.ParameterTree → Bool
are_signers tables all =
    are_parameters (scope_of tables) all && list_all (λ p. is_account_reference p.type) (parameter_types (scope_of tables) all)

-- `prepare`, whose parameters stop at 0
abbrev pub type_prepare : ProgramTables → s.TransactionTree → s.PrepareTree → Result e.BlockTree ℕ
type_prepare tables x p =
    if are_signers tables p.parameters then type_body (without_result (prepare_environment tables x)) 0 p.body else Err 0

abbrev pub type_pre : ProgramTables → s.TransactionTree → Result (List e.ConditionBody) ℕ
type_pre tables x = type_conditions (part_in tables x precondition) 0 (written_conditions x.pre)

abbrev pub type_execute : ProgramTables → s.TransactionTree → List s.StmtTree → Result e.BlockTree ℕ
type_execute tables x body = type_body (without_result (part_in tables x execute_body)) 0 body

abbrev pub type_post : ProgramTables → s.TransactionTree → Result (List e.ConditionBody) ℕ
type_post tables x = type_conditions (part_in tables x (postcondition None)) 0 (written_conditions x.post)

-- ---- the whole

abbrev pub prepare_statements : Option s.PrepareTree → ℕ
prepare_statements None = 0
prepare_statements (Some p) = count_body (Some p.body)

-- The elaborated body; parts that are ill-typed are left out.
abbrev pub transaction_body : ProgramTables → s.TransactionTree → e.TransactionBody
transaction_body tables x = record {
  fields = entries_of (part_in tables x precondition) (own_fields tables x);
  parameters = entries_of (part_in tables x precondition) (own_parameters tables x);
  signers = entries_of (part_in tables x precondition) (signers tables x);
  prepare = option_and_then (λ p. result_ok (type_prepare tables x p)) x.prepare;
  pre = result_unwrap_or (type_pre tables x) [];
  before = values_at_entry (part_in tables x (postcondition None)) 0 (written_conditions x.post);
  execute = option_and_then (λ all. result_ok (type_execute tables x all)) x.execute;
  post = result_unwrap_or (type_post tables x) [];
  prepare_statements = prepare_statements x.prepare;
  pre_statements = length (written_conditions x.pre);
  execute_statements = count_body x.execute;
  post_statements = length (written_conditions x.post);
}
