-- Functions, with what is in scope in them as it was made once.
use Rattle.std.specs.Prelude.{ℕ, ◌+◌, Bool, true, false, Option, Some, None, Result, Ok, Err, List, [], ◌∷◌, ◌++◌, length, map, option_map}
use Rattle.cad_syntax.specs.Types.{PureType}
use Rattle.cad_syntax.specs.declared.type_id.TypeId.{TypeId}
use Rattle.cad_grammar.specs.Trees as s
use Rattle.cad_declarations.specs.Kinds.{kinds_of}
use Rattle.cad_declarations.specs.Tables.{ProgramTables}
use Rattle.cad_declarations.specs.Typed as e
use Rattle.cad_typing.specs.Conditions.{type_conditions, values_at_entry}
use Rattle.cad_typing.specs.Environments.{Environment, Local, Part, precondition, postcondition}
use Rattle.cad_typing.specs.Functions.{Routine, count_conditions, count_body, number_behind, result_local, type_optional_body}
use Rattle.cad_typing.specs.Heads.{annotated_type, default_environment, default_value}
use Rattle.cad_typing.specs.Locals.{entry_of, entries_of}
use Rattle.cad_typing.specs.Statements.{◌>>=◌, Surroundings}

-- ---- events

-- what was collected stands in front of what comes
abbrev pub behind : {Y : Type 0} → List Y → Option (List Y) → Option (List Y)
behind done more = option_map (λ ys. done ++ ys) more

abbrev pub default_of : ProgramTables → TypeId → s.EventParameterTree → Option e.TargetedTerm
default_of tables id p = default_value (default_environment tables id) (annotated_type tables p.parameter.annotation) p.default_value

-- ---- functions

abbrev pub environment_with : ProgramTables → Option TypeId → List (List Local) → Part → ℕ → Environment
environment_with tables within scopes part in_use = record {
  tables = tables;
  within = within;
  transaction_fields = None;
  part = part;
  scopes = scopes;
  in_use = in_use;
  befores = 0;
}

abbrev pub surroundings_with : Environment → PureType → Surroundings
surroundings_with env result = record { env = env; result = result; may_break = false; may_continue = false }

-- what was made once: where preconditions, postconditions and statements stand, and what is in scope
pub record Setting : Type 0 where
  pub routine : Routine
  pub locals : List Local
  pub result : PureType
  pub result_local : Option Local
  pub before : Environment
  pub after : Environment
  pub surroundings : Surroundings

abbrev pub function_with : Setting → List e.ConditionBody → List e.ConditionBody → Option e.BlockTree → e.FunctionBody
function_with x pre post body = record {
  inside = x.routine.inside;
  is_view = x.routine.is_view;
  parameters = entries_of x.before x.locals;
  result = x.result;
  result_variable = option_map (entry_of x.before) x.result_local;
  pre = pre;
  before = values_at_entry x.after (length x.routine.pre) x.routine.post;
  post = post;
  body = body;
  statements = count_conditions x.routine + count_body x.routine.body;
}

-- statements, behind these conditions
abbrev pub behind_post : Setting → List e.ConditionBody → List e.ConditionBody → Result e.FunctionBody ℕ
behind_post x pre post = type_optional_body x.surroundings (count_conditions x.routine) x.routine.body >>= (λ body. Ok (function_with x pre post body))

-- postconditions and statements, behind these preconditions
abbrev pub behind_pre : Setting → List e.ConditionBody → Result e.FunctionBody ℕ
behind_pre x pre = type_conditions x.after (length x.routine.pre) x.routine.post >>= behind_post x pre

abbrev pub parts_with : Setting → Result e.FunctionBody ℕ
parts_with x = type_conditions x.before 0 x.routine.pre >>= behind_pre x

-- in these scopes, with so many variables in use before the result, and behind it
abbrev pub setting : ProgramTables → Routine → List (List Local) → List Local → PureType → Option Local → ℕ → ℕ → Setting
setting tables r scopes locals result v count behind = record {
  routine = r;
  locals = locals;
  result = result;
  result_local = v;
  before = environment_with tables r.within scopes precondition count;
  after = environment_with tables r.within scopes (postcondition v) behind;
  surroundings = surroundings_with (environment_with tables r.within scopes r.part count) result;
}

abbrev pub parts_at : ProgramTables → Routine → List (List Local) → List Local → PureType → Option Local → ℕ → ℕ → Result e.FunctionBody ℕ
parts_at tables r scopes locals result v count behind = parts_with (setting tables r scopes locals result v count behind)

-- with these variables and this type of the result
abbrev pub parts_in : ProgramTables → Routine → List Local → PureType → Result e.FunctionBody ℕ
parts_in tables r locals t = parts_at tables r (locals ∷ []) locals t
    (result_local (kinds_of tables) (length r.parameters) t)
    (length r.parameters)
    (number_behind (length r.parameters) (result_local (kinds_of tables) (length r.parameters) t))
