-- How high expressions are, and the highest of statements.
use Rattle.std.specs.Prelude.{ℕ, ◌+◌, max, Option, Some, None}
use Rattle.cad_grammar.specs.Trees.{ExprTree, whole, fixed, text, bool, nil, self, name, path, create, list, pairs, member, optional_member, index, call, force, unary, borrow, cast, binary, conditional, Exprs, no_exprs, exprs, Arguments, no_arguments, arguments, Entries, no_entries, entries, TestTree, expression_test, binding, SecondTree, StmtTree, variable, if_else, while_loop, for_loop, switch, break_loop, continue_loop, return_value, emit, assignment, swap, expression, Stmts, no_stmts, stmts, OtherwiseTree, nothing, else_block, else_if, Cases, no_cases, cases, Default, no_default, default}

-- levels, from an expression down to its lowest part
abbrev mutual
  pub height : ExprTree → ℕ
  height (create names all) = 1 + arguments_height all
  height (list es) = 1 + exprs_height es
  height (pairs es) = 1 + entries_height es
  height (member a n) = 1 + height a
  height (optional_member a n) = 1 + height a
  height (index a b) = 1 + max (height a) (height b)
  height (call a types all) = 1 + max (height a) (arguments_height all)
  height (force a) = 1 + height a
  height (unary op a) = 1 + height a
  height (borrow a t) = 1 + height a
  height (cast kind a t) = 1 + height a
  height (binary op a b) = 1 + max (height a) (height b)
  height (conditional a b c) = 1 + max (height a) (max (height b) (height c))
  height _ = 1

  pub exprs_height : Exprs → ℕ
  exprs_height no_exprs = 0
  exprs_height (exprs e es) = max (height e) (exprs_height es)

  pub arguments_height : Arguments → ℕ
  arguments_height no_arguments = 0
  arguments_height (arguments label e all) = max (height e) (arguments_height all)

  pub entries_height : Entries → ℕ
  entries_height no_entries = 0
  entries_height (entries k v es) = max (max (height k) (height v)) (entries_height es)

-- ---- the highest expression

abbrev pub optional_height : Option ExprTree → ℕ
optional_height None = 0
optional_height (Some e) = height e

abbrev pub second_height : Option SecondTree → ℕ
second_height None = 0
second_height (Some x) = height x.value

abbrev pub test_height : TestTree → ℕ
test_height (expression_test e) = height e
test_height (binding kind n a transfer e) = height e

abbrev mutual
  pub highest : StmtTree → ℕ
  highest (variable kind n a transfer e second) = max (height e) (second_height second)
  highest (if_else test body otherwise) = max (test_height test) (max (highest_of body) (otherwise_highest otherwise))
  highest (while_loop e body) = max (height e) (highest_of body)
  highest (for_loop i n e body) = max (height e) (highest_of body)
  highest (switch e all otherwise) = max (height e) (max (cases_highest all) (default_highest otherwise))
  highest break_loop = 0
  highest continue_loop = 0
  highest (return_value e) = optional_height e
  highest (emit e) = height e
  highest (assignment a transfer e) = max (height a) (height e)
  highest (swap a b) = max (height a) (height b)
  highest (expression e) = height e

  pub highest_of : Stmts → ℕ
  highest_of no_stmts = 0
  highest_of (stmts s all) = max (highest s) (highest_of all)

  pub otherwise_highest : OtherwiseTree → ℕ
  otherwise_highest nothing = 0
  otherwise_highest (else_block all) = highest_of all
  otherwise_highest (else_if s) = highest s

  pub cases_highest : Cases → ℕ
  cases_highest no_cases = 0
  cases_highest (cases e body all) = max (max (height e) (highest_of body)) (cases_highest all)

  pub default_highest : Default → ℕ
  default_highest no_default = 0
  default_highest (default all) = highest_of all
