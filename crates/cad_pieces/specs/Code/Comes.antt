-- Which expressions come to their end, and how statements end: by their trees.
use Rattle.std.specs.Prelude.{Bool, true, false, not, ◌&&◌, ◌||◌, Option, Some, None}
use Rattle.cad_grammar.specs.declared.expression.BinaryOperator.{BinaryOperator}
use Rattle.cad_types.specs.Classes.{is_void}
use Rattle.cad_declarations.specs.Typed as e
use Rattle.cad_paths.specs.Letters.{is_short, is_never_builtin, ends_path}
use Rattle.cad_pieces.specs.declared.ends.Ends.{Ends}
use Rattle.cad_pieces.specs.Code.Ends.{ends, coming, behind, beside, turning, broken_off, continued_on}

-- ---- expressions

-- `&&` and `||` may leave out their right side
abbrev pub second_comes : BinaryOperator → Bool → Bool
second_comes op comes = is_short op || comes

abbrev mutual
  pub place_comes : e.PlaceTree → Bool
  place_comes (e.variable v) = true
  place_comes e.self = true
  place_comes (e.contract id) = true
  place_comes (e.target x) = term_comes x
  place_comes (e.field p of name) = place_comes p
  place_comes (e.element p of x) = place_comes p && term_comes x
  place_comes (e.content p forces) = place_comes p

  pub use_comes : e.UseTree → Bool
  use_comes (e.get name authorization) = true
  use_comes (e.method name is_view is_never args) = arguments_come args
  use_comes (e.builtin_field member) = true
  use_comes (e.builtin_call member types args) = arguments_come args

  pub term_comes : e.TermTree → Bool
  term_comes (e.number n) = true
  term_comes (e.address a) = true
  term_comes (e.bool x) = true
  term_comes e.nil = true
  term_comes (e.string x) = true
  term_comes (e.character x) = true
  term_comes (e.path p) = true
  term_comes (e.meta t) = true
  term_comes (e.case id n) = true
  term_comes (e.copy p) = place_comes p
  term_comes (e.take p) = place_comes p
  term_comes (e.array t items) = terms_come items
  term_comes (e.dictionary k t items) = entries_come items
  term_comes (e.construct id args) = arguments_come args
  term_comes (e.create id args) = arguments_come args
  term_comes (e.call f is_view is_never args) = arguments_come args && not is_never
  term_comes (e.builtin member types args) = arguments_come args && not (is_never_builtin member types)
  term_comes (e.on p u) = place_comes p && (use_comes u && not (ends_path u))
  term_comes (e.chain p u wraps) = place_comes p
  term_comes (e.index p of x) = place_comes p && term_comes x
  term_comes (e.hold n t x body) = term_comes x && term_comes body
  term_comes (e.destroy x) = term_comes x
  term_comes (e.borrow p authorization t takes_off gives_optional) = place_comes p
  term_comes (e.unary op x) = term_comes x
  term_comes (e.force x) = term_comes x
  term_comes (e.cast kind x t) = term_comes x
  term_comes (e.binary op x y) = term_comes x && second_comes op (term_comes y)
  term_comes (e.coalesce x y takes_off t) = term_comes x
  term_comes (e.is_nil p is_negated) = place_comes p
  term_comes (e.conditional c x y) = term_comes c && (term_comes x || term_comes y)
  term_comes (e.before n) = true

  pub terms_come : e.Terms → Bool
  terms_come e.no_terms = true
  terms_come (e.terms x xs) = term_comes x && terms_come xs

  pub arguments_come : e.Arguments → Bool
  arguments_come e.no_arguments = true
  arguments_come (e.arguments x t xs) = term_comes x && arguments_come xs

  pub entries_come : e.TermEntries → Bool
  entries_come e.no_entries = true
  entries_come (e.entries k x xs) = term_comes k && (term_comes x && entries_come xs)

-- ---- statements

-- a statement behind a test
abbrev pub tested : Bool → Ends → Ends
tested comes a = behind (coming comes) a

-- the test, and the body any number of times
abbrev pub while_ends : Bool → Ends → Ends
while_ends comes a = broken_off (tested comes (turning (behind (continued_on a) (coming comes))))

abbrev pub for_ends : Bool → Ends → Ends
for_ends comes a = tested comes (broken_off (turning (continued_on a)))

abbrev pub switch_ends : Bool → Ends → Ends
switch_ends comes a = tested comes (broken_off a)

abbrev pub return_ends : Bool → Ends
return_ends comes = ends false false false comes

abbrev mutual
  pub statement_ends : e.StatementTree → Ends
  statement_ends (e.declare n v x) = coming (term_comes x)
  statement_ends (e.exchange n v p t x) = coming (place_comes p && term_comes x)
  statement_ends (e.assign n p x t) = coming (place_comes p && term_comes x)
  statement_ends (e.force_assign n p x t) = coming (place_comes p && term_comes x)
  statement_ends (e.swap n p t q u) = coming (place_comes p && place_comes q)
  statement_ends (e.expression n x) = coming (term_comes x)
  statement_ends (e.if_else n x a b) = tested (term_comes x) (beside (block_ends a) (block_ends b))
  statement_ends (e.if_let n v x t a b) = tested (term_comes x) (beside (block_ends a) (block_ends b))
  statement_ends (e.if_cast n v p t a b) = tested (place_comes p) (beside (block_ends a) (block_ends b))
  statement_ends (e.while_loop n x a) = while_ends (term_comes x) (block_ends a)
  statement_ends (e.for_loop n i v x t a) = for_ends (term_comes x) (block_ends a)
  statement_ends (e.switch n x all otherwise) = switch_ends (term_comes x) (cases_ends all (block_ends otherwise))
  statement_ends (e.break_loop n) = ends false true false false
  statement_ends (e.continue_loop n) = ends false false true false
  statement_ends (e.return_nothing n) = return_ends true
  statement_ends (e.return_value n x t) = return_ends (term_comes x)
  statement_ends (e.emit n id args) = coming (arguments_come args)

  pub block_ends : e.BlockTree → Ends
  block_ends (e.block n all) = statements_ends all

  pub statements_ends : e.Statements → Ends
  statements_ends e.no_statements = coming true
  statements_ends (e.statements s all) = behind (statement_ends s) (statements_ends all)

  pub cases_ends : e.TypedCases → Ends → Ends
  cases_ends e.no_cases otherwise = otherwise
  cases_ends (e.cases x a all) otherwise = tested (term_comes x) (beside (block_ends a) (cases_ends all otherwise))

-- ---- functions

-- some path comes to the end of a body that is there
abbrev pub body_comes : Option e.BlockTree → Bool
body_comes None = false
body_comes (Some a) = (block_ends a).next

-- there is a result, and some path comes to the end of the statements
abbrev pub lacks_return : e.FunctionBody → Bool
lacks_return f = not (is_void f.result) && body_comes f.body
