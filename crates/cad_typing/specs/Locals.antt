-- Variables and their scopes.
use Rattle.std.specs.Prelude.{ℕ, suc, ◌+◌, Bool, true, false, not, List, [], ◌∷◌, length, map}
use Rattle.std.specs.List.{list_any}
use Rattle.cad_syntax.specs.Types.{PureType}
use Rattle.cad_syntax.specs.declared.text.Name.{Name}
use Rattle.cad_grammar.specs.declared.statement.VariableKind.{VariableKind}
use Rattle.cad_grammar.specs.declared.statement.VariableKind.TheVariants as word
use Rattle.cad_types.specs.Declarations.{resource}
use Rattle.cad_declarations.specs.Names.{same_name}
use Rattle.cad_declarations.specs.Tables.{ParameterType}
use Rattle.cad_declarations.specs.Typed as e
use Rattle.cad_typing.specs.Environments.{Environment, Local, kinds}

abbrev pub is_var_word : VariableKind → Bool
is_var_word word.Var = true
is_var_word word.Let = false

-- the variable that is declared next
abbrev pub next_local : Environment → VariableKind → Name → PureType → Local
next_local env kind name type = record { number = env.in_use; name = name; type = type; is_var = is_var_word kind }

-- a variable in the elaborated tree
abbrev pub entry_of : Environment → Local → e.VariableEntry
entry_of env v = record { number = v.number; name = v.name; type = v.type; is_resource = resource (kinds env) v.type }

abbrev pub innermost : List (List Local) → List Local
innermost [] = []
innermost (locals ∷ outer) = locals

-- two variables of one scope have two names
abbrev pub is_free : Environment → Name → Bool
is_free env name = not (list_any (λ v. same_name v.name name) (innermost env.scopes))

abbrev pub in_innermost : Local → List (List Local) → List (List Local)
in_innermost v [] = (v ∷ []) ∷ []
in_innermost v (locals ∷ outer) = (v ∷ locals) ∷ outer

-- behind the declaration of a variable
abbrev pub declaring : Local → Environment → Environment
declaring v env = record env { scopes = in_innermost v env.scopes; in_use = env.in_use + 1 }

-- in a new scope with these variables
abbrev pub opening : List Local → Environment → Environment
opening locals env = record env { scopes = locals ∷ env.scopes; in_use = env.in_use + length locals }

-- the parameters, with numbers from this one; none is assigned
abbrev pub locals_from : ℕ → List ParameterType → List Local
locals_from n [] = []
locals_from n (p ∷ ps) = record { number = n; name = p.name; type = p.type; is_var = false } ∷ locals_from (suc n) ps

abbrev pub entries_of : Environment → List Local → List e.VariableEntry
entries_of env locals = map (entry_of env) locals
