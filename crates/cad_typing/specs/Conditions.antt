-- Conditions, and what stands under `before` in them.
use Rattle.std.specs.Prelude.{ℕ, suc, ◌+◌, Option, Some, None, Result, Ok, List, [], ◌∷◌, ◌++◌, filter_map, length, ok_or, option_map}
use Rattle.cad_syntax.specs.Types.{PureType, basic}
use Rattle.cad_syntax.specs.declared.types.Basic.TheVariants as b
use Rattle.cad_grammar.specs.Trees as s
use Rattle.cad_declarations.specs.Typed as e
use Rattle.cad_typing.specs.Befores.{befores, behind, at_entry}
use Rattle.cad_typing.specs.Environments.{Environment, ordinary, Typing, kinds, when, ◌>=>◌}
use Rattle.cad_typing.specs.Expressions.{infer}
use Rattle.cad_types.specs.Optionals.{fits}
use Rattle.cad_typing.specs.Places.{infer_event}
use Rattle.cad_typing.specs.StatementForms.{infer_test}
use Rattle.cad_typing.specs.Statements.{◌>>=◌}

abbrev pub string : PureType
string = basic b.String

-- a message is a String
abbrev pub message : Environment → Option s.ExprTree → Option (Option e.TermTree)
message env None = Some None
message env (Some a) = infer env ordinary (Some string) a >=> (λ x. when (fits (kinds env) x.type string) (Some (Some x.term)))

-- a condition with its number: a Bool with its message, or an event
abbrev pub condition : Environment → ℕ → s.ConditionTree → Option e.ConditionBody
condition env n (s.test a m) = infer_test env a >=> (λ x. message (behind a env) m >=> (λ y. Some (e.test n x.term y)))
condition env n (s.emitted a) = infer_event env a >=> (λ x. Some (e.emitted n x.event x.arguments))

abbrev pub befores_of_message : Option s.ExprTree → List s.ExprTree
befores_of_message None = []
befores_of_message (Some a) = befores a

abbrev pub befores_of_condition : s.ConditionTree → List s.ExprTree
befores_of_condition (s.test a m) = befores a ++ befores_of_message m
befores_of_condition (s.emitted a) = befores a

abbrev pub behind_condition : s.ConditionTree → Environment → Environment
behind_condition c env = record env { befores = env.befores + length (befores_of_condition c) }

-- conditions, the first of which has this number, or the first that is ill-typed
abbrev pub type_conditions : Environment → ℕ → List s.ConditionTree → Result (List e.ConditionBody) ℕ
type_conditions env n [] = Ok []
type_conditions env n (c ∷ all) = ok_or (condition env n c) n >>= (λ x.
    type_conditions (behind_condition c env) (suc n) all >>= (λ xs. Ok (x ∷ xs)))

abbrev pub before_tree : ℕ → Typing → e.BeforeTree
before_tree n x = record { at = n; value = x.term }

-- a value at entry, with the number of its condition
abbrev pub value_at_entry : Environment → ℕ → s.ExprTree → Option e.BeforeTree
value_at_entry env n a = option_map (before_tree n) (infer (at_entry env) ordinary None a)

-- what stands under `before` in conditions, in order; of ill-typed ones nothing is asked
abbrev pub values_at_entry : Environment → ℕ → List s.ConditionTree → List e.BeforeTree
values_at_entry env n [] = []
values_at_entry env n (c ∷ all) = filter_map (value_at_entry env n) (befores_of_condition c) ++ values_at_entry env (suc n) all

-- the conditions that are written
abbrev pub written_conditions : Option (List s.ConditionTree) → List s.ConditionTree
written_conditions None = []
written_conditions (Some all) = all
