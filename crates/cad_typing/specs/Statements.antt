-- Statements: their elaborated trees, or the first that is ill-typed.
use Rattle.std.specs.Prelude.{ℕ, suc, ◌+◌, Bool, true, Option, Some, None, Result, Ok, Err, List, [], ◌∷◌, length, ok_or}
use Rattle.cad_syntax.specs.Types.{PureType}
use Rattle.cad_grammar.specs.Trees as s
use Rattle.cad_grammar.specs.Trees.{StmtTree, Stmts, OtherwiseTree, Cases, Default}
use Rattle.cad_declarations.specs.Typed as e
use Rattle.cad_declarations.specs.Written.{rows_of, rows_of_stmts, rows_of_otherwise, rows_of_cases}
use Rattle.cad_typing.specs.Environments.{Environment, Local, when, ◌>=>◌}
use Rattle.cad_typing.specs.Locals.{declaring, opening}
use Rattle.cad_typing.specs.Places.{infer_event}
use Rattle.cad_typing.specs.StatementForms.{StatementTyping, alone, declaration, test_typing, test_locals, test_tree, infer_test, for_typing, for_locals, for_tree, switch_typing, cases_with, assignment, swap, returned, evaluated}

infixl 10 ◌>>=◌
-- what is done with a result, where there is one
abbrev pub ◌>>=◌ : {A B : Type 0} → Result A ℕ → (A → Result B ℕ) → Result B ℕ
Err n >>= f = Err n
Ok a >>= f = f a

-- where a statement stands
pub record Surroundings : Type 0 where
  pub env : Environment
  -- what the function gives back
  pub result : PureType
  pub may_break : Bool
  pub may_continue : Bool

-- behind a statement
abbrev pub behind_statement : StatementTyping → Surroundings → Surroundings
behind_statement x w = by_variable x.declares
  where
    by_variable : Option Local → Surroundings
    by_variable None = w
    by_variable (Some v) = record w { env = declaring v w.env }

-- In a block; these variables are in a scope outside it.
abbrev pub in_block : List Local → Surroundings → Surroundings
in_block locals w = record w { env = opening [] (opening locals w.env) }

abbrev pub in_loop : Surroundings → Surroundings
in_loop w = record w { may_break = true; may_continue = true }

abbrev pub in_switch : Surroundings → Surroundings
in_switch w = record w { may_break = true }

abbrev pub block : Surroundings → e.Statements → e.BlockTree
block w all = e.block w.env.in_use all

-- a block of statements, which stand in a scope of their own
abbrev pub block_in : List Local → Surroundings → (Surroundings → Result e.Statements ℕ) → Result e.BlockTree ℕ
block_in locals w all = all (in_block locals w) >>= (λ xs. Ok (block (in_block locals w) xs))

abbrev pub empty_block : Surroundings → Result e.BlockTree ℕ
empty_block w = block_in [] w (λ v. Ok e.no_statements)

-- ---- numbers

-- how many statements there are, those in statements among them
abbrev pub count : StmtTree → ℕ
count x = length (rows_of x)

abbrev pub count_all : Stmts → ℕ
count_all all = length (rows_of_stmts all)

abbrev pub count_otherwise : OtherwiseTree → ℕ
count_otherwise x = length (rows_of_otherwise x)

abbrev pub count_cases : Cases → ℕ
count_cases all = length (rows_of_cases all)

-- ---- statements

-- one without statements in it: it stops at its own number
abbrev pub single : ℕ → Option e.StatementTree → Result StatementTyping ℕ
single n None = Err n
single n (Some tree) = Ok (alone tree)

abbrev pub emitted : Environment → ℕ → s.ExprTree → Option e.StatementTree
emitted env n a = infer_event env a >=> (λ x. Some (e.emit n x.event x.arguments))

abbrev mutual
  -- A statement with this number; those in it have the next ones, in source order. Its own parts are judged before the
  -- statements in it.
  pub type_statement : Surroundings → ℕ → StmtTree → Result StatementTyping ℕ
  type_statement w n (s.variable kind name written by a second) = ok_or (declaration w.env n kind name written by a second) n
  type_statement w n (s.if_else test body otherwise) = ok_or (test_typing w.env test) n >>= (λ x.
      block_in (test_locals x) w (λ v. type_statements v (suc n) body) >>= (λ a.
      type_otherwise w (suc n + count_all body) otherwise >>= (λ b. Ok (alone (test_tree w.env n x a b)))))
  type_statement w n (s.while_loop test body) = ok_or (infer_test w.env test) n >>= (λ x.
      block_in [] (in_loop w) (λ v. type_statements v (suc n) body) >>= (λ a. Ok (alone (e.while_loop n x.term a))))
  type_statement w n (s.for_loop index name a body) = ok_or (for_typing w.env index name a) n >>= (λ x.
      block_in (for_locals x) (in_loop w) (λ v. type_statements v (suc n) body) >>= (λ b. Ok (alone (for_tree w.env n x b))))
  type_statement w n (s.switch a all otherwise) = ok_or (switch_typing w.env a all) n >>= (λ x.
      type_cases (in_switch w) (suc n) all >>= (λ bs.
      type_default (in_switch w) (suc n + count_cases all) otherwise >>= (λ b.
      Ok (alone (e.switch n x.value (cases_with x.cases bs) b)))))
  type_statement w n s.break_loop = single n (when w.may_break (Some (e.break_loop n)))
  type_statement w n s.continue_loop = single n (when w.may_continue (Some (e.continue_loop n)))
  type_statement w n (s.return_value a) = single n (returned w.env w.result n a)
  type_statement w n (s.emit a) = single n (emitted w.env n a)
  type_statement w n (s.assignment place by a) = single n (assignment w.env n place by a)
  type_statement w n (s.swap a b) = single n (swap w.env n a b)
  type_statement w n (s.expression a) = single n (evaluated w.env n a)

  -- statements, the first of which has this number
  pub type_statements : Surroundings → ℕ → Stmts → Result e.Statements ℕ
  type_statements w n s.no_stmts = Ok e.no_statements
  type_statements w n (s.stmts x all) = type_statement w n x >>= (λ y.
      type_statements (behind_statement y w) (n + count x) all >>= (λ ys. Ok (e.statements y.tree ys)))

  -- an `if` behind `else` is the one statement of a block
  pub type_otherwise : Surroundings → ℕ → OtherwiseTree → Result e.BlockTree ℕ
  type_otherwise w n s.nothing = empty_block w
  type_otherwise w n (s.else_block body) = block_in [] w (λ v. type_statements v n body)
  type_otherwise w n (s.else_if x) = block_in [] w (λ v. type_statement v n x >>= (λ y. Ok (e.statements y.tree e.no_statements)))

  -- the blocks of the cases; each is a scope
  pub type_cases : Surroundings → ℕ → Cases → Result (List e.BlockTree) ℕ
  type_cases w n s.no_cases = Ok []
  type_cases w n (s.cases a body all) = block_in [] w (λ v. type_statements v n body) >>= (λ b.
      type_cases w (n + count_all body) all >>= (λ bs. Ok (b ∷ bs)))

  pub type_default : Surroundings → ℕ → Default → Result e.BlockTree ℕ
  type_default w n s.no_default = empty_block w
  type_default w n (s.default body) = block_in [] w (λ v. type_statements v n body)
