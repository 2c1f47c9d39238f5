-- Functions and initializers: their elaborated bodies, or the number of the first statement that is ill-typed.
use Rattle.std.specs.Prelude.{ℕ, ◌+◌, Bool, true, false, not, ◌&&◌, Option, Some, None, Result, Ok, Err, List, [], ◌∷◌, ◌++◌, codes, length, map, option_map, if◌then◌else◌}
use Rattle.std.specs.List.{list_all}
use Rattle.std.specs.Option.{is_some}
use Rattle.cad_syntax.specs.Types.{PureType, optional, reference}
use Rattle.cad_syntax.specs.declared.text.Name.{Name}
use Rattle.cad_syntax.specs.declared.type_id.TypeId.{TypeId}
use Rattle.cad_syntax.specs.declared.types.Authorization.TheVariants as a
use Rattle.cad_grammar.specs.Trees as s
use Rattle.cad_types.specs.Classes.{is_void}
use Rattle.cad_types.specs.Declarations.{Declaration, resource}
use Rattle.cad_declarations.specs.Entries.{parameter_entry, result_entry, is_empty}
use Rattle.cad_declarations.specs.Formed.{resolved_annotation}
use Rattle.cad_declarations.specs.Kinds.{kinds_of, scope_of}
use Rattle.cad_declarations.specs.Names.{is_spelled}
use Rattle.cad_declarations.specs.Points.{word, init_name, are_new}
use Rattle.cad_declarations.specs.Scopes.{Scope}
use Rattle.cad_declarations.specs.Tables.{ProgramTables, ParameterType}
use Rattle.cad_declarations.specs.Typed as e
use Rattle.cad_typing.specs.Conditions.{type_conditions, values_at_entry, written_conditions}
use Rattle.cad_typing.specs.Environments.{Environment, Local, Part, function_body, initializer_body, precondition, postcondition}
use Rattle.cad_typing.specs.Locals.{entry_of, entries_of, locals_from}
use Rattle.cad_typing.specs.Statements.{◌>>=◌, Surroundings, block_in, type_statements, count_all}
use Rattle.cad_typing.specs.Types.{is_importable, is_exportable}

-- ---- heads

-- a type that is there, rightly formed, with `@` where it is one of resources
abbrev pub is_annotated : Scope → s.Annotation → Bool
is_annotated scope annotation = is_some (resolved_annotation scope annotation)

abbrev pub is_result : Scope → Option s.Annotation → Bool
is_result scope None = true
is_result scope (Some annotation) = is_annotated scope annotation

abbrev pub parameter_names : List s.ParameterTree → List Name
parameter_names all = map (λ p. p.name) all

-- their types are right, and no two have one name
abbrev pub are_parameters : Scope → List s.ParameterTree → Bool
are_parameters scope all = list_all (λ p. is_annotated scope p.annotation) all && are_new [] (parameter_names all)

abbrev pub parameter_types : Scope → List s.ParameterTree → List ParameterType
parameter_types scope all = map (parameter_entry scope) all

-- ---- functions and initializers

-- a function or an initializer as it is written
pub record Routine : Type 0 where
  pub inside : List Name
  -- the type in which it stands
  pub within : Option TypeId
  -- whether it is an initializer
  pub part : Part
  pub is_view : Bool
  pub parameters : List s.ParameterTree
  pub result : Option s.Annotation
  pub pre : List s.ConditionTree
  pub post : List s.ConditionTree
  -- in an interface there may be none
  pub body : Option (List s.StmtTree)

abbrev pub pre_of : Option s.FunctionBlockTree → List s.ConditionTree
pre_of None = []
pre_of (Some block) = written_conditions block.pre

abbrev pub post_of : Option s.FunctionBlockTree → List s.ConditionTree
post_of None = []
post_of (Some block) = written_conditions block.post

-- in an interface a block without statements is conditions alone
abbrev pub body_of : Bool → Option s.FunctionBlockTree → Option (List s.StmtTree)
body_of in_interface None = None
body_of in_interface (Some block) = if in_interface && is_empty block.body then None else Some block.body

-- by its names, the type in which it stands, and whether that is an interface
abbrev pub function_routine : List Name → Option TypeId → Bool → s.FunctionTree → Routine
function_routine inside within in_interface x = record {
  inside = inside;
  within = within;
  part = function_body;
  is_view = x.is_view;
  parameters = x.parameters;
  result = x.result;
  pre = pre_of x.block;
  post = post_of x.block;
  body = body_of in_interface x.block;
}

abbrev pub initializer_routine : TypeId → s.InitTree → Routine
initializer_routine id x = record {
  inside = id.names ++ init_name ∷ [];
  within = Some id;
  part = initializer_body;
  is_view = x.is_view;
  parameters = x.parameters;
  result = None;
  pre = pre_of (Some x.block);
  post = post_of (Some x.block);
  body = Some x.block.body;
}

abbrev pub head_is_right : Scope → Routine → Bool
head_is_right scope r = are_parameters scope r.parameters && is_result scope r.result

-- ---- what is in scope

abbrev pub routine_locals : Scope → Routine → List Local
routine_locals scope r = locals_from 0 (parameter_types scope r.parameters)

abbrev pub routine_result : Scope → Routine → PureType
routine_result scope r = result_entry scope r.result

-- the parameters are the outer scope of what stands in this part
abbrev pub routine_environment : ProgramTables → Routine → Part → ℕ → Environment
routine_environment tables r part in_use = record {
  tables = tables;
  within = r.within;
  transaction_fields = None;
  part = part;
  scopes = routine_locals (scope_of tables) r ∷ [];
  in_use = in_use;
  befores = 0;
}

-- a reference without authorization to what isn't nil of it
abbrev pub referred : PureType → PureType
referred (optional t) = optional (referred t)
referred t = reference a.Unauthorized t

-- the result in postconditions: of a resource a reference to it
abbrev pub result_in_conditions : List Declaration → PureType → PureType
result_in_conditions k t = if resource k t then referred t else t

-- a result other than Void has the number behind the parameters
abbrev pub result_local : List Declaration → ℕ → PureType → Option Local
result_local k n t =
    if is_void t then None
    else Some (record { number = n; name = word (codes "result"); type = result_in_conditions k t; is_var = false })

abbrev pub number_behind : ℕ → Option Local → ℕ
number_behind n None = n
number_behind n (Some v) = n + 1

abbrev pub routine_result_local : ProgramTables → Routine → Option Local
routine_result_local tables r = result_local (kinds_of tables) (length r.parameters) (routine_result (scope_of tables) r)

abbrev pub before_environment : ProgramTables → Routine → Environment
before_environment tables r = routine_environment tables r precondition (length r.parameters)

abbrev pub after_environment : ProgramTables → Routine → Environment
after_environment tables r =
    routine_environment tables r (postcondition (routine_result_local tables r)) (number_behind (length r.parameters) (routine_result_local tables r))

abbrev pub body_surroundings : ProgramTables → Routine → Surroundings
body_surroundings tables r = record {
  env = routine_environment tables r r.part (length r.parameters);
  result = routine_result (scope_of tables) r;
  may_break = false;
  may_continue = false;
}

-- ---- bodies

-- statements in a block, the first of which has this number
abbrev pub type_body : Surroundings → ℕ → List s.StmtTree → Result e.BlockTree ℕ
type_body w n all = block_in [] w (λ v. type_statements v n (s.stmts_of all))

abbrev pub type_optional_body : Surroundings → ℕ → Option (List s.StmtTree) → Result (Option e.BlockTree) ℕ
type_optional_body w n None = Ok None
type_optional_body w n (Some all) = type_body w n all >>= (λ x. Ok (Some x))

abbrev pub count_body : Option (List s.StmtTree) → ℕ
count_body None = 0
count_body (Some all) = count_all (s.stmts_of all)

abbrev pub count_conditions : Routine → ℕ
count_conditions r = length r.pre + length r.post

-- the elaborated body of its conditions and statements
abbrev pub routine_body : ProgramTables → Routine → List e.ConditionBody → List e.ConditionBody → Option e.BlockTree → e.FunctionBody
routine_body tables r pre post body = record {
  inside = r.inside;
  is_view = r.is_view;
  parameters = entries_of (before_environment tables r) (routine_locals (scope_of tables) r);
  result = routine_result (scope_of tables) r;
  result_variable = option_map (entry_of (before_environment tables r)) (routine_result_local tables r);
  pre = pre;
  before = values_at_entry (after_environment tables r) (length r.pre) r.post;
  post = post;
  body = body;
  statements = count_conditions r + count_body r.body;
}

-- the head at 0, then preconditions, postconditions and statements, in the order of their numbers
abbrev pub type_parts : ProgramTables → Routine → Result e.FunctionBody ℕ
type_parts tables r = type_conditions (before_environment tables r) 0 r.pre >>= (λ pre.
    type_conditions (after_environment tables r) (length r.pre) r.post >>= (λ post.
    type_optional_body (body_surroundings tables r) (count_conditions r) r.body >>= (λ body.
    Ok (routine_body tables r pre post body))))

-- The elaborated body of a function or an initializer, or where it is ill-typed.
abbrev pub type_routine : ProgramTables → Routine → Result e.FunctionBody ℕ
type_routine tables r = if head_is_right (scope_of tables) r then type_parts tables r else Err 0

-- ---- `main`

-- a function outside a contract that is named `main` takes what can be imported and gives what can be exported
abbrev pub is_entry : ProgramTables → s.FunctionTree → Bool
is_entry tables x =
    list_all (λ p. is_importable (kinds_of tables) p.type) (parameter_types (scope_of tables) x.parameters)
    && is_exportable (kinds_of tables) (result_entry (scope_of tables) x.result)

abbrev pub is_main : Name → Bool
is_main name = is_spelled (codes "main") name

abbrev pub top_routine : s.FunctionTree → Routine
top_routine x = function_routine (x.name ∷ []) None false x

-- a function outside a contract
abbrev pub type_top_function : ProgramTables → s.FunctionTree → Result e.FunctionBody ℕ
type_top_function tables x = if is_main x.name && not (is_entry tables x) then Err 0 else type_routine tables (top_routine x)
