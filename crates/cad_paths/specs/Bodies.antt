-- What elaborated statements and whole bodies spell, and what the checks of moves and of initialisation ask of them.
use Rattle.std.specs.Prelude.{ℕ, ◌+◌, List, [], ◌∷◌, Option, Some, None, if◌then◌else◌, Bool, true, false}
use Rattle.cad_declarations.specs.Typed as e
use Rattle.cad_paths.specs.declared.letter.Letter.TheVariants.{Fill, Spend, Empty}
use Rattle.cad_paths.specs.declared.letter.Way.TheVariants.{Broken, Continued, Returned}
use Rattle.cad_paths.specs.declared.letter.BodyPart.{BodyPart}
use Rattle.cad_paths.specs.declared.letter.BodyPart.TheVariants.{Whole, Declaration, Prepare, Pre, Execute, Post}
use Rattle.cad_paths.specs.declared.letter.Position.{Position}
use Rattle.cad_paths.specs.declared.letter.FieldRule.{FieldRule}
use Rattle.cad_paths.specs.Paths.{PathVariable, PathBody, leave, seq, either, loop, catch, scope, skip}
use Rattle.cad_paths.specs.Letters.{Reading, resources, fields_of_self, fields_of_transaction, is_self, maybe, ending, variable_letters, variable_set, own_field_use, own_field_set, place_letters, term_letters, take_letters, arguments_letters}

abbrev pub position : BodyPart → ℕ → Position
position part n = record { part = part; at = n }

-- ---- targets

-- what is evaluated of a place before the value that is put there
abbrev pub target_letters : Reading → Position → e.PlaceTree → PathBody
target_letters r at (e.variable v) = skip
target_letters r at e.self = skip
target_letters r at (e.contract id) = skip
target_letters r at (e.target x) = term_letters r at x
target_letters r at (e.field p of name) = if is_self p then skip else place_letters r at p
target_letters r at (e.element p of x) = seq (place_letters r at p) (term_letters r at x)
target_letters r at (e.content p forces) = place_letters r at p

-- the place is assigned to
abbrev pub set_letters : Reading → Position → e.PlaceTree → PathBody
set_letters r at (e.variable v) = variable_set r at v
set_letters r at (e.field p of name) = if is_self p then own_field_set r at name else skip
set_letters r at _ = skip

-- what stands in the place is replaced: by `<-!`, `<->` or a second value
abbrev pub fill_letters : Reading → Position → e.PlaceTree → PathBody
fill_letters r at (e.variable v) = variable_letters r Fill at v
fill_letters r at (e.field p of name) = if is_self p then own_field_use r at name else skip
fill_letters r at _ = skip

-- ---- statements

abbrev pub path_variable : e.VariableEntry → PathVariable
path_variable v = record { number = v.number; name = v.name }

-- whether a variable's scope is marked: that of a resource, where resources are asked for
abbrev pub is_scope : Reading → e.VariableEntry → Bool
is_scope resources v = v.is_resource
is_scope (fields_of_self fs) v = false
is_scope (fields_of_transaction fs) v = false

-- a variable, and its scope
abbrev pub declared : Reading → e.VariableEntry → Position → PathBody → PathBody
declared r v at a = if is_scope r v then scope (path_variable v) at a else a

-- The test and the body, any number of times, and the test before it ends; a `continue` comes to the test.
abbrev pub turns_between : PathBody → PathBody → PathBody → PathBody
turns_between first test a = catch Broken (seq first (loop (seq (catch Continued a) test)))

abbrev pub while_letters : PathBody → PathBody → PathBody
while_letters test a = turns_between test test a

abbrev pub for_letters : PathBody → PathBody → PathBody
for_letters array a = seq array (catch Broken (loop (catch Continued a)))

abbrev pub place_variable : e.PlaceTree → Option ℕ
place_variable (e.variable v) = Some v
place_variable _ = None

-- the variable whose value an expression takes
abbrev pub taken_variable : e.TermTree → Option ℕ
taken_variable (e.take p) = place_variable p
taken_variable _ = None

-- Where the value of `if let` is itself a variable, or a transaction's field, it is spent in the first branch and nil in the
-- second; any other value is evaluated before the branches.
abbrev pub if_let_letters : Reading → Position → Option ℕ → PathBody → PathBody → PathBody → PathBody
if_let_letters r at (Some v) x a b = either (seq (variable_letters r Spend at v) a) (seq (variable_letters r Empty at v) b)
if_let_letters r at None x a b = seq x (either a b)

-- a failable cast: the resource is spent in the first branch and stays in the second
abbrev pub if_cast_letters : Reading → Position → e.PlaceTree → PathBody → PathBody → PathBody
if_cast_letters r at p a b = either (seq (take_letters r at p (place_letters r at p)) a) (seq (place_letters r at p) b)

abbrev pub return_letters : Reading → Position → Option e.TermTree → PathBody
return_letters r at None = leave Returned
return_letters r at (Some x) = seq (term_letters r at x) (leave Returned)

-- a statement's own variable has the statements behind it as its scope
abbrev pub scope_behind : Reading → BodyPart → e.StatementTree → PathBody → PathBody
scope_behind r part (e.declare n v x) rest = declared r v (position part n) rest
scope_behind r part (e.exchange n v p t x) rest = declared r v (position part n) rest
scope_behind r part _ rest = rest

abbrev mutual
  pub statement_letters : Reading → BodyPart → e.StatementTree → PathBody
  statement_letters r part (e.declare n v x) = term_letters r (position part n) x
  statement_letters r part (e.exchange n v p t x) = seq (target_letters r (position part n) p) (seq (term_letters r (position part n) x) (fill_letters r (position part n) p))
  statement_letters r part (e.assign n p x t) = seq (target_letters r (position part n) p) (seq (term_letters r (position part n) x) (set_letters r (position part n) p))
  statement_letters r part (e.force_assign n p x t) = seq (target_letters r (position part n) p) (seq (term_letters r (position part n) x) (fill_letters r (position part n) p))
  statement_letters r part (e.swap n p t q u) = seq (target_letters r (position part n) p) (seq (target_letters r (position part n) q)
      (seq (fill_letters r (position part n) p) (fill_letters r (position part n) q)))
  statement_letters r part (e.expression n x) = term_letters r (position part n) x
  statement_letters r part (e.if_else n x a b) = seq (term_letters r (position part n) x) (either (block_letters r part a) (block_letters r part b))
  statement_letters r part (e.if_let n v x t a b) = if_let_letters r (position part n) (taken_variable x) (term_letters r (position part n) x) (declared r v (position part n) (block_letters r part a)) (block_letters r part b)
  statement_letters r part (e.if_cast n v p t a b) = if_cast_letters r (position part n) p (declared r v (position part n) (block_letters r part a)) (block_letters r part b)
  statement_letters r part (e.while_loop n x a) = while_letters (term_letters r (position part n) x) (block_letters r part a)
  statement_letters r part (e.for_loop n i v x t a) = for_letters (term_letters r (position part n) x) (block_letters r part a)
  statement_letters r part (e.switch n x all otherwise) = seq (term_letters r (position part n) x) (catch Broken (cases_letters r part n all (block_letters r part otherwise)))
  statement_letters r part (e.break_loop n) = leave Broken
  statement_letters r part (e.continue_loop n) = leave Continued
  statement_letters r part (e.return_nothing n) = return_letters r (position part n) None
  statement_letters r part (e.return_value n x t) = return_letters r (position part n) (Some x)
  statement_letters r part (e.emit n id args) = arguments_letters r (position part n) args

  pub block_letters : Reading → BodyPart → e.BlockTree → PathBody
  block_letters r part (e.block n all) = statements_letters r part all

  pub statements_letters : Reading → BodyPart → e.Statements → PathBody
  statements_letters r part e.no_statements = skip
  statements_letters r part (e.statements s all) = seq (statement_letters r part s) (scope_behind r part s (statements_letters r part all))

  -- a case's value is compared, and its statements run or the further cases are tried
  pub cases_letters : Reading → BodyPart → ℕ → e.TypedCases → PathBody → PathBody
  cases_letters r part n e.no_cases otherwise = otherwise
  cases_letters r part n (e.cases x a all) otherwise = seq (term_letters r (position part n) x) (either (block_letters r part a) (cases_letters r part n all otherwise))

-- ---- conditions

-- a condition's message is evaluated or not, and the path goes on
abbrev pub message_letters : Reading → Position → Option e.TermTree → PathBody
message_letters r at None = skip
message_letters r at (Some x) = maybe (term_letters r at x)

abbrev pub condition_letters : Reading → BodyPart → e.ConditionBody → PathBody
condition_letters r part (e.test n x message) = seq (term_letters r (position part n) x) (message_letters r (position part n) message)
condition_letters r part (e.emitted n id args) = arguments_letters r (position part n) args

abbrev pub conditions_letters : Reading → BodyPart → List e.ConditionBody → PathBody
conditions_letters r part [] = skip
conditions_letters r part (c ∷ all) = seq (condition_letters r part c) (conditions_letters r part all)

-- what `before` uses is used at entry, and counts to its condition
abbrev pub before_value : Reading → BodyPart → e.BeforeTree → PathBody
before_value r part x = term_letters r (position part x.at) x.value

abbrev pub before_letters : Reading → BodyPart → List e.BeforeTree → PathBody
before_letters r part [] = skip
before_letters r part (x ∷ all) = seq (before_value r part x) (before_letters r part all)

-- ---- whole bodies

abbrev pub part_letters : Reading → BodyPart → Option e.BlockTree → PathBody
part_letters r part None = skip
part_letters r part (Some a) = catch Returned (block_letters r part a)

abbrev pub has_no_block : Option e.BlockTree → Bool
has_no_block None = true
has_no_block (Some a) = false

-- Conditions and body of a function. In an interface it may have conditions alone; its paths close nothing.
abbrev pub inner_letters : Reading → e.FunctionBody → PathBody
inner_letters r f = seq (before_letters r Whole f.before) (seq (conditions_letters r Whole f.pre) (seq (part_letters r Whole f.body)
    (seq (conditions_letters r Whole f.post) (ending (has_no_block f.body)))))

-- variables that are there from the start, each declared at this position
abbrev pub from_start : List e.VariableEntry → Position → PathBody → PathBody
from_start [] at a = a
from_start (v ∷ vs) at a = declared resources v at (from_start vs at a)

-- what paths of a function spell for its resource variables: a parameter counts to the function's number of statements
abbrev pub function_letters : e.FunctionBody → PathBody
function_letters f = from_start f.parameters (position Whole f.statements) (inner_letters resources f)

-- where a transaction's field counts as lost: at the end of `execute`, without one of `prepare`, else at the declaration
abbrev pub fields_end : e.TransactionBody → Position
fields_end t = if has_no_block t.execute then (if has_no_block t.prepare then position Declaration 0 else position Prepare t.prepare_statements)
    else position Execute t.execute_statements

-- a transaction is one body, and its fields of resource type are variables that close at its end
abbrev pub transaction_letters : e.TransactionBody → PathBody
transaction_letters t = from_start t.fields (fields_end t) (seq (part_letters resources Prepare t.prepare) (seq (conditions_letters resources Pre t.pre)
    (seq (before_letters resources Post t.before) (seq (part_letters resources Execute t.execute) (conditions_letters resources Post t.post)))))

abbrev pub resource_letters : e.PartBody → PathBody
resource_letters (e.function_part f) = function_letters f
resource_letters (e.initializer_part f) = function_letters f
resource_letters (e.transaction_part t) = transaction_letters t

-- fields that are to be set: the first has this number, and they count to this position
abbrev pub unset_fields : ℕ → List FieldRule → Position → PathBody → PathBody
unset_fields n [] at a = a
unset_fields n (f ∷ fs) at a = scope (record { number = n; name = f.name }) at (unset_fields (n + 1) fs at a)

-- what paths of an initializer spell for the fields of what it makes
abbrev pub initializer_letters : List FieldRule → e.FunctionBody → PathBody
initializer_letters fs f = unset_fields 0 fs (position Whole f.statements) (inner_letters (fields_of_self fs) f)

abbrev pub prepare_end : e.TransactionBody → Position
prepare_end t = if has_no_block t.prepare then position Declaration 0 else position Prepare t.prepare_statements

-- what paths of `prepare` spell for the transaction's fields
abbrev pub prepare_letters : List FieldRule → e.TransactionBody → PathBody
prepare_letters fs t = unset_fields 0 fs (prepare_end t) (part_letters (fields_of_transaction fs) Prepare t.prepare)

-- the fields are those that the body sets; a function sets none
abbrev pub field_letters : List FieldRule → e.PartBody → PathBody
field_letters fs (e.function_part f) = skip
field_letters fs (e.initializer_part f) = initializer_letters fs f
field_letters fs (e.transaction_part t) = prepare_letters fs t
