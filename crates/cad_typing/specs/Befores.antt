-- What stands under `before` in an expression.
use Rattle.std.specs.Prelude.{ℕ, ◌+◌, Bool, false, Option, Some, None, List, [], ◌∷◌, ◌++◌, codes, length, if◌then◌else◌}
use Rattle.std.specs.List.{flat_map}
use Rattle.cad_grammar.specs.Trees as s
use Rattle.cad_declarations.specs.Names.{is_spelled}
use Rattle.cad_typing.specs.Environments.{Environment, Local, before_value}

abbrev pub is_before : s.ExprTree → Bool
is_before (s.name n) = is_spelled (codes "before") n
is_before _ = false

abbrev pub expressions : s.Arguments → List s.ExprTree
expressions s.no_arguments = []
expressions (s.arguments label e all) = e ∷ expressions all

abbrev mutual
  -- the arguments of each `before`, from left to right
  pub befores : s.ExprTree → List s.ExprTree
  befores (s.create names all) = befores_of_arguments all
  befores (s.list all) = befores_of_all all
  befores (s.pairs all) = befores_of_entries all
  befores (s.member a n) = befores a
  befores (s.optional_member a n) = befores a
  befores (s.index a b) = befores a ++ befores b
  befores (s.call f types all) = if is_before f then expressions all else befores f ++ befores_of_arguments all
  befores (s.force a) = befores a
  befores (s.unary op a) = befores a
  befores (s.borrow a t) = befores a
  befores (s.cast kind a t) = befores a
  befores (s.binary op a b) = befores a ++ befores b
  befores (s.conditional a b c) = befores a ++ (befores b ++ befores c)
  befores _ = []

  pub befores_of_all : s.Exprs → List s.ExprTree
  befores_of_all s.no_exprs = []
  befores_of_all (s.exprs e all) = befores e ++ befores_of_all all

  pub befores_of_arguments : s.Arguments → List s.ExprTree
  befores_of_arguments s.no_arguments = []
  befores_of_arguments (s.arguments label e all) = befores e ++ befores_of_arguments all

  pub befores_of_entries : s.Entries → List s.ExprTree
  befores_of_entries s.no_entries = []
  befores_of_entries (s.entries k v all) = befores k ++ (befores v ++ befores_of_entries all)

-- where an expression stands behind another of the same form
abbrev pub behind : s.ExprTree → Environment → Environment
behind e env = record env { befores = env.befores + length (befores e) }

abbrev pub locals_in : Option (List Local) → List Local
locals_in None = []
locals_in (Some locals) = locals

-- the variables that have names: in a postcondition the parameters, and in a transaction its fields too
abbrev pub named_variables : Environment → ℕ
named_variables env = length (flat_map (λ locals. locals) env.scopes) + length (locals_in env.transaction_fields)

-- where what stands under `before` is evaluated: at entry, where there is no result and no hidden variable
abbrev pub at_entry : Environment → Environment
at_entry env = record env { part = before_value; in_use = named_variables env }
