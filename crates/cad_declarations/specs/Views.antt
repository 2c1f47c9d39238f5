-- The tree that a value of the program is.
use Rattle.std.specs.Prelude.{ℕ, Option, Some, None, option_map, List, map}
use Rattle.cad_syntax.specs.Types.{pure_type}
use Rattle.cad_declarations.specs.Tables as t
pub use Rattle.cad_declarations.specs.MemberViews.{parameter_of, signature_of, form_of, member_of, type_entry_of, mapping_entry_of}
use Rattle.cad_declarations.specs.Typed as e
use Rattle.cad_declarations.specs.declared.tables.Tables.{Tables}
use Rattle.cad_declarations.specs.declared.term.Place.{Place, Place-F, fold-Place}
use Rattle.cad_declarations.specs.declared.term.Use.{Use, Use-F, fold-Use}
use Rattle.cad_declarations.specs.declared.term.Term.{Term, Term-F, fold-Term}
use Rattle.cad_declarations.specs.declared.term.Argument.{Argument, Argument-F, fold-Argument}
use Rattle.cad_declarations.specs.declared.term.TermEntry.{TermEntry, TermEntry-F, fold-TermEntry}
use Rattle.cad_declarations.specs.declared.statement.Variable.{Variable}
use Rattle.cad_declarations.specs.declared.statement.TypedBlock.{TypedBlock, TypedBlock-F, fold-TypedBlock}
use Rattle.cad_declarations.specs.declared.statement.TypedStatement.{TypedStatement, TypedStatement-F, fold-TypedStatement}
use Rattle.cad_declarations.specs.declared.statement.TypedCase.{TypedCase, TypedCase-F, fold-TypedCase}
use Rattle.cad_declarations.specs.declared.body.TypedCondition.{TypedCondition}
use Rattle.cad_declarations.specs.declared.body.TypedCondition.TheVariants as condition
use Rattle.cad_declarations.specs.declared.body.TypedBefore.{TypedBefore}
use Rattle.cad_declarations.specs.declared.body.TypedFunction.{TypedFunction}
use Rattle.cad_declarations.specs.declared.body.TypedTransaction.{TypedTransaction}
use Rattle.cad_declarations.specs.declared.body.TypedBody.{TypedBody}
use Rattle.cad_declarations.specs.declared.body.TypedBody.TheVariants as part
use Rattle.cad_declarations.specs.declared.body.TypedMember.{TypedMember}
use Rattle.cad_declarations.specs.declared.body.DestroyedEvent.{DestroyedEvent}
use Rattle.cad_declarations.specs.declared.body.TypedType.{TypedType}
use Rattle.cad_declarations.specs.declared.body.Bodies.{Bodies}

-- ---- tables

abbrev pub tables_of : Tables → t.ProgramTables
tables_of x = record {
  place = x.place;
  contract = x.contract;
  imports = x.imports;
  types = map type_entry_of x.types;
  entitlements = x.entitlements;
  mappings = map mapping_entry_of x.mappings;
  functions = map member_of x.functions.items;
}

-- ---- expressions

abbrev pub place_step : Place-F e.PlaceTree e.TermTree e.UseTree e.TargetedTerm e.TermPair → e.PlaceTree
place_step (Place-F.Variable n) = e.variable n
place_step Place-F.Self_ = e.self
place_step (Place-F.Contract id) = e.contract id
place_step (Place-F.Target x) = e.target x.value
place_step (Place-F.Place::Field base of name) = e.field base.value (pure_type of) name
place_step (Place-F.Element base of i) = e.element base.value (pure_type of) i.value
place_step (Place-F.Content base forces) = e.content base.value forces

abbrev pub use_step : Use-F e.PlaceTree e.TermTree e.UseTree e.TargetedTerm e.TermPair → e.UseTree
use_step (Use-F.Use::Field name authorization) = e.get name authorization
use_step (Use-F.Method name is_view is_never all) = e.method name is_view is_never (e.arguments_of all.items)
use_step (Use-F.BuiltinField member) = e.builtin_field member
use_step (Use-F.BuiltinCall member types all) = e.builtin_call member (map pure_type types.items) (e.arguments_of all.items)

abbrev pub term_step : Term-F e.PlaceTree e.TermTree e.UseTree e.TargetedTerm e.TermPair → e.TermTree
term_step (Term-F.Number n) = e.number n
term_step (Term-F.Address a) = e.address a
term_step (Term-F.Bool b) = e.bool b
term_step Term-F.Nil = e.nil
term_step (Term-F.String x) = e.string x
term_step (Term-F.Character x) = e.character x
term_step (Term-F.Path p) = e.path p
term_step (Term-F.Meta t) = e.meta (pure_type t)
term_step (Term-F.Case id n) = e.case id n
term_step (Term-F.Copy p) = e.copy p.value
term_step (Term-F.Take p) = e.take p.value
term_step (Term-F.Array t items) = e.array (pure_type t) (e.terms_of items.items)
term_step (Term-F.Dictionary k v all) = e.dictionary (pure_type k) (pure_type v) (e.entries_of all.items)
term_step (Term-F.Construct id all) = e.construct id (e.arguments_of all.items)
term_step (Term-F.Create id all) = e.create id (e.arguments_of all.items)
term_step (Term-F.Call f is_view is_never all) = e.call f is_view is_never (e.arguments_of all.items)
term_step (Term-F.Builtin member types all) = e.builtin member (map pure_type types.items) (e.arguments_of all.items)
term_step (Term-F.On p u) = e.on p.value u.value
term_step (Term-F.Chain p u wraps) = e.chain p.value u.value wraps
term_step (Term-F.Index p of i) = e.index p.value (pure_type of) i.value
term_step (Term-F.Hold n t x body) = e.hold n (pure_type t) x.value body.value
term_step (Term-F.Destroy x) = e.destroy x.value
term_step (Term-F.Borrow p a t takes_off gives_optional) = e.borrow p.value a (pure_type t) takes_off gives_optional
term_step (Term-F.Unary op x) = e.unary op x.value
term_step (Term-F.Force x) = e.force x.value
term_step (Term-F.Cast kind x t) = e.cast kind x.value (pure_type t)
term_step (Term-F.Binary op a b) = e.binary op a.value b.value
term_step (Term-F.Coalesce a b takes_off t) = e.coalesce a.value b.value takes_off (pure_type t)
term_step (Term-F.IsNil p negated) = e.is_nil p.value negated
term_step (Term-F.Conditional a b c) = e.conditional a.value b.value c.value
term_step (Term-F.Before n) = e.before n

abbrev pub argument_step : Argument-F e.PlaceTree e.TermTree e.UseTree e.TargetedTerm e.TermPair → e.TargetedTerm
argument_step a = record { value = a.value; target = pure_type a.target }

abbrev pub pair_step : TermEntry-F e.PlaceTree e.TermTree e.UseTree e.TargetedTerm e.TermPair → e.TermPair
pair_step a = record { key = a.key; value = a.value }

abbrev pub place_of : Place → e.PlaceTree
place_of = fold-Place e.PlaceTree e.TermTree e.UseTree e.TargetedTerm e.TermPair place_step term_step use_step argument_step pair_step

abbrev pub term_of : Term → e.TermTree
term_of = fold-Term e.PlaceTree e.TermTree e.UseTree e.TargetedTerm e.TermPair place_step term_step use_step argument_step pair_step

abbrev pub use_of : Use → e.UseTree
use_of = fold-Use e.PlaceTree e.TermTree e.UseTree e.TargetedTerm e.TermPair place_step term_step use_step argument_step pair_step

abbrev pub argument_of : Argument → e.TargetedTerm
argument_of = fold-Argument e.PlaceTree e.TermTree e.UseTree e.TargetedTerm e.TermPair place_step term_step use_step argument_step pair_step

abbrev pub pair_of : TermEntry → e.TermPair
pair_of = fold-TermEntry e.PlaceTree e.TermTree e.UseTree e.TargetedTerm e.TermPair place_step term_step use_step argument_step pair_step

-- ---- statements

abbrev pub variable_of : Variable → e.VariableEntry
variable_of x = record { number = x.number; name = x.name; type = pure_type x.declared; is_resource = x.is_resource }

abbrev pub return_of : ℕ → Option Argument → e.StatementTree
return_of at None = e.return_nothing at
return_of at (Some a) = e.return_value at (term_of a.value) (pure_type a.target)

abbrev pub targeted : List Argument → e.Arguments
targeted all = e.arguments_of (map argument_of all)

abbrev pub statement_step : TypedStatement-F e.StatementTree e.BlockTree e.TypedCaseTree → e.StatementTree
statement_step (TypedStatement-F.Declare at v x) = e.declare at (variable_of v) (term_of x)
statement_step (TypedStatement-F.Exchange at v p of x) = e.exchange at (variable_of v) (place_of p) (pure_type of) (term_of x)
statement_step (TypedStatement-F.Assign at p x) = e.assign at (place_of p) (term_of x.value) (pure_type x.target)
statement_step (TypedStatement-F.ForceAssign at p x) = e.force_assign at (place_of p) (term_of x.value) (pure_type x.target)
statement_step (TypedStatement-F.Swap at p t q u) = e.swap at (place_of p) (pure_type t) (place_of q) (pure_type u)
statement_step (TypedStatement-F.Expression at x) = e.expression at (term_of x)
statement_step (TypedStatement-F.If at x then otherwise) = e.if_else at (term_of x) then otherwise
statement_step (TypedStatement-F.IfLet at v x then otherwise) = e.if_let at (variable_of v) (term_of x.value) (pure_type x.target) then otherwise
statement_step (TypedStatement-F.IfCast at v p t then otherwise) = e.if_cast at (variable_of v) (place_of p) (pure_type t) then otherwise
statement_step (TypedStatement-F.While at x body) = e.while_loop at (term_of x) body
statement_step (TypedStatement-F.For at i v x body) = e.for_loop at (option_map variable_of i) (variable_of v) (term_of x.value) (pure_type x.target) body
statement_step (TypedStatement-F.Switch at x all otherwise) = e.switch at (term_of x) (e.cases_of all.items) otherwise
statement_step (TypedStatement-F.Break at) = e.break_loop at
statement_step (TypedStatement-F.Continue at) = e.continue_loop at
statement_step (TypedStatement-F.Return at x) = return_of at x
statement_step (TypedStatement-F.Emit at id all) = e.emit at id (targeted all.items)

abbrev pub block_step : TypedBlock-F e.StatementTree e.BlockTree e.TypedCaseTree → e.BlockTree
block_step b = e.block b.in_scope (e.statements_of b.statements.items)

abbrev pub case_step : TypedCase-F e.StatementTree e.BlockTree e.TypedCaseTree → e.TypedCaseTree
case_step c = record { value = term_of c.value; body = c.body }

abbrev pub statement_of : TypedStatement → e.StatementTree
statement_of = fold-TypedStatement e.StatementTree e.BlockTree e.TypedCaseTree statement_step block_step case_step

abbrev pub block_of : TypedBlock → e.BlockTree
block_of = fold-TypedBlock e.StatementTree e.BlockTree e.TypedCaseTree statement_step block_step case_step

abbrev pub case_of : TypedCase → e.TypedCaseTree
case_of = fold-TypedCase e.StatementTree e.BlockTree e.TypedCaseTree statement_step block_step case_step

-- ---- bodies

abbrev pub condition_of : TypedCondition → e.ConditionBody
condition_of (condition.Test at x m) = e.test at (term_of x) (option_map term_of m)
condition_of (condition.Emit at id all) = e.emitted at id (targeted all.items)

abbrev pub before_of : TypedBefore → e.BeforeTree
before_of x = record { at = x.at; value = term_of x.value }

abbrev pub function_of : TypedFunction → e.FunctionBody
function_of x = record {
  inside = x.inside;
  is_view = x.is_view;
  parameters = map variable_of x.parameters.items;
  result = pure_type x.result;
  result_variable = option_map variable_of x.result_variable;
  pre = map condition_of x.pre.items;
  before = map before_of x.before.items;
  post = map condition_of x.post.items;
  body = option_map block_of x.body;
  statements = x.statements;
}

abbrev pub transaction_of : TypedTransaction → e.TransactionBody
transaction_of x = record {
  fields = map variable_of x.fields.items;
  parameters = map variable_of x.parameters.items;
  signers = map variable_of x.signers.items;
  prepare = option_map block_of x.prepare;
  pre = map condition_of x.pre.items;
  before = map before_of x.before.items;
  execute = option_map block_of x.execute;
  post = map condition_of x.post.items;
  prepare_statements = x.prepare_statements;
  pre_statements = x.pre_statements;
  execute_statements = x.execute_statements;
  post_statements = x.post_statements;
}

abbrev pub part_of : TypedBody → e.PartBody
part_of (part.Function x) = e.function_part (function_of x)
part_of (part.Initializer x) = e.initializer_part (function_of x)
part_of (part.Transaction x) = e.transaction_part (transaction_of x)

abbrev pub member_body_of : TypedMember → e.MemberBody
member_body_of x = record { name = x.name; function = function_of x.function }

abbrev pub destroyed_of : DestroyedEvent → e.DestroyedBody
destroyed_of x = record { event = x.event; arguments = map argument_of x.arguments.items }

abbrev pub type_body_of : TypedType → e.TypeBody
type_body_of x = record {
  id = x.id;
  initializer = option_map function_of x.initializer;
  functions = map member_body_of x.functions.items;
  destroyed = option_map destroyed_of x.destroyed;
}

abbrev pub bodies_of : Bodies → e.ProgramBodies
bodies_of x = record {
  types = map type_body_of x.types.items;
  functions = map member_body_of x.functions.items;
  transaction = option_map transaction_of x.transaction;
}
