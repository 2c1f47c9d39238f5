-- Where the statements of a block stand, and what loops and cases make.
use Rattle.std.specs.Prelude.{ℕ, suc, ◌+◌, Option, Some, None, option_map, not, ◌&&◌, Result, Ok, Err, List, [], ◌∷◌, length}
use Rattle.cad_grammar.specs.Trees as t
use Rattle.cad_declarations.specs.Written.{rows_of_default}
use Rattle.cad_syntax.specs.declared.text.Name.{Name}
use Rattle.cad_types.specs.Declarations.{resource}
use Rattle.cad_typing.specs.Environments.{Environment, Local, Typing, kinds, when, ◌>=>◌}
use Rattle.cad_typing.specs.Locals.{opening}
use Rattle.cad_typing.specs.StatementForms.{ForTyping, TestTyping, differs, element_local, for_locals, index_local, test_locals}
use Rattle.cad_typing.specs.Types.{element_type}
use Rattle.cad_typing.specs.Statements.{Surroundings, ◌>>=◌}

-- with these variables in a scope inside
abbrev pub around : List Local → Surroundings → Surroundings
around locals w = record w { env = opening locals w.env }

-- behind variables of a block's own, the last one first
abbrev pub inner : Surroundings → List Local → ℕ → Surroundings
inner w locals in_use = record w { env = record w.env { scopes = locals ∷ w.env.scopes; in_use = in_use } }

abbrev pub locals_behind : Option Local → List Local → List Local
locals_behind None locals = locals
locals_behind (Some v) locals = v ∷ locals

abbrev pub in_use_behind : Option Local → ℕ → ℕ
in_use_behind None n = n
in_use_behind (Some v) n = n + 1

-- the variables of a test and of a `for`, where they are typed
abbrev pub test_scope : Option TestTyping → List Local
test_scope None = []
test_scope (Some x) = test_locals x

abbrev pub for_scope : Option ForTyping → List Local
for_scope None = []
for_scope (Some x) = for_locals x

-- ---- numbers behind what is typed

-- what is done with a result, where there is one
abbrev pub continued : {A B : Type 0} → Result A ℕ → (A → Result B ℕ) → Result B ℕ
continued r f = r >>= f

-- what is typed, with the number behind it
abbrev pub numbered : {A : Type 0} → ℕ → Result A ℕ → Result (A × ℕ) ℕ
numbered n r = r >>= (λ x. Ok (x, n))

-- the number of the first statement inside one whose own parts are typed; where they aren't it stops at its own
abbrev pub first_inside : {A : Type 0} → ℕ → Option A → Result ℕ ℕ
first_inside n None = Err n
first_inside n (Some x) = Ok (suc n)

-- the number behind what is typed
abbrev pub number_behind : {A : Type 0} → Result (A × ℕ) ℕ → Result ℕ ℕ
number_behind (Ok x) = Ok x.1
number_behind (Err n) = Err n

-- how many statements there are in `default`
abbrev pub count_default : t.Default → ℕ
count_default x = length (rows_of_default x)

-- `for` over a value
abbrev pub for_over : Environment → Option Name → Name → Typing → Option ForTyping
for_over env index name x = element_type x.type >=> (λ t.
    when (differs name index && not (resource (kinds env) t))
    (Some (record { index = option_map (index_local env) index; element = element_local env index name t; array = x.term; type = x.type })))
