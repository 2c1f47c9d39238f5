-- The types that are written in a body, statement by statement.
use Rattle.std.specs.Prelude.{Option, Some, None, List, [], ◌∷◌, ◌++◌, map}
use Rattle.std.specs.List.{flat_map}
use Rattle.cad_grammar.specs.Trees as t

-- ---- expressions

-- the types of annotations, in order
abbrev pub types_in : t.Annotations → List t.TypeTree
types_in t.no_annotations = []
types_in (t.annotations is_resource written more) = written ∷ types_in more

abbrev mutual
  -- the types that an expression names
  pub types_of : t.ExprTree → List t.TypeTree
  types_of (t.create name all) = t.named name t.no_annotations ∷ types_of_arguments all
  types_of (t.list all) = types_of_exprs all
  types_of (t.pairs all) = types_of_entries all
  types_of (t.member a name) = types_of a
  types_of (t.optional_member a name) = types_of a
  types_of (t.index a b) = types_of a ++ types_of b
  types_of (t.call f arguments all) = types_of f ++ types_in arguments ++ types_of_arguments all
  types_of (t.force a) = types_of a
  types_of (t.unary op a) = types_of a
  types_of (t.borrow a to) = types_of a ++ to ∷ []
  types_of (t.cast kind a to) = types_of a ++ to.written ∷ []
  types_of (t.binary op a b) = types_of a ++ types_of b
  types_of (t.conditional a b c) = types_of a ++ types_of b ++ types_of c
  types_of (t.whole n is_hexadecimal) = []
  types_of (t.fixed n) = []
  types_of (t.text text) = []
  types_of (t.bool b) = []
  types_of t.nil = []
  types_of t.self = []
  types_of (t.name n) = []
  types_of (t.path p) = []

  pub types_of_exprs : t.Exprs → List t.TypeTree
  types_of_exprs t.no_exprs = []
  types_of_exprs (t.exprs e all) = types_of e ++ types_of_exprs all

  pub types_of_arguments : t.Arguments → List t.TypeTree
  types_of_arguments t.no_arguments = []
  types_of_arguments (t.arguments label e all) = types_of e ++ types_of_arguments all

  pub types_of_entries : t.Entries → List t.TypeTree
  types_of_entries t.no_entries = []
  types_of_entries (t.entries key value all) = types_of key ++ types_of value ++ types_of_entries all

abbrev pub types_of_option : Option t.ExprTree → List t.TypeTree
types_of_option None = []
types_of_option (Some e) = types_of e

abbrev pub annotated : Option t.Annotation → List t.TypeTree
annotated None = []
annotated (Some a) = a.written ∷ []

-- ---- statements

abbrev pub types_of_test : t.TestTree → List t.TypeTree
types_of_test (t.expression_test e) = types_of e
types_of_test (t.binding kind name annotation transfer e) = annotated annotation ++ types_of e

abbrev pub types_of_second : Option t.SecondTree → List t.TypeTree
types_of_second None = []
types_of_second (Some second) = types_of second.value

abbrev mutual
  -- The types of each statement in its order: what a statement itself names, and then those of the statements in it.
  pub rows_of : t.StmtTree → List (List t.TypeTree)
  rows_of (t.variable kind name annotation transfer e second) = (annotated annotation ++ types_of e ++ types_of_second second) ∷ []
  rows_of (t.if_else test then otherwise) = types_of_test test ∷ rows_of_stmts then ++ rows_of_otherwise otherwise
  rows_of (t.while_loop e body) = types_of e ∷ rows_of_stmts body
  rows_of (t.for_loop index name e body) = types_of e ∷ rows_of_stmts body
  rows_of (t.switch e all otherwise) = (types_of e ++ types_of_cases all) ∷ rows_of_cases all ++ rows_of_default otherwise
  rows_of t.break_loop = [] ∷ []
  rows_of t.continue_loop = [] ∷ []
  rows_of (t.return_value e) = types_of_option e ∷ []
  rows_of (t.emit e) = types_of e ∷ []
  rows_of (t.assignment place transfer e) = (types_of place ++ types_of e) ∷ []
  rows_of (t.swap a b) = (types_of a ++ types_of b) ∷ []
  rows_of (t.expression e) = types_of e ∷ []

  pub rows_of_stmts : t.Stmts → List (List t.TypeTree)
  rows_of_stmts t.no_stmts = []
  rows_of_stmts (t.stmts s all) = rows_of s ++ rows_of_stmts all

  -- an `if` behind `else` is a statement of its own
  pub rows_of_otherwise : t.OtherwiseTree → List (List t.TypeTree)
  rows_of_otherwise t.nothing = []
  rows_of_otherwise (t.else_block body) = rows_of_stmts body
  rows_of_otherwise (t.else_if s) = rows_of s

  -- the values of the cases belong to the `switch`
  pub types_of_cases : t.Cases → List t.TypeTree
  types_of_cases t.no_cases = []
  types_of_cases (t.cases e body all) = types_of e ++ types_of_cases all

  pub rows_of_cases : t.Cases → List (List t.TypeTree)
  rows_of_cases t.no_cases = []
  rows_of_cases (t.cases e body all) = rows_of_stmts body ++ rows_of_cases all

  pub rows_of_default : t.Default → List (List t.TypeTree)
  rows_of_default t.no_default = []
  rows_of_default (t.default body) = rows_of_stmts body

-- ---- functions

abbrev pub types_of_condition : t.ConditionTree → List t.TypeTree
types_of_condition (t.test e message) = types_of e ++ types_of_option message
types_of_condition (t.emitted e) = types_of e

abbrev pub rows_of_conditions : Option (List t.ConditionTree) → List (List t.TypeTree)
rows_of_conditions None = []
rows_of_conditions (Some all) = map types_of_condition all

abbrev pub rows_of_body : List t.StmtTree → List (List t.TypeTree)
rows_of_body all = flat_map rows_of all

-- its conditions are numbered before its statements
abbrev pub rows_of_block : t.FunctionBlockTree → List (List t.TypeTree)
rows_of_block block = rows_of_conditions block.pre ++ rows_of_conditions block.post ++ rows_of_body block.body

abbrev pub rows_of_option : Option t.FunctionBlockTree → List (List t.TypeTree)
rows_of_option None = []
rows_of_option (Some block) = rows_of_block block

-- the types that the head of a function names
abbrev pub types_of_parameters : List t.ParameterTree → List t.TypeTree
types_of_parameters all = map (λ p. p.annotation.written) all

abbrev pub types_of_head : t.FunctionTree → List t.TypeTree
types_of_head f = types_of_parameters f.parameters ++ annotated f.result
