-- The tree that a value of the program is.
use Rattle.std.specs.Prelude.{ℕ, Bool, Option, Some, None, option_map, List, [], ◌∷◌, map}
use Rattle.cad_grammar.specs.Trees as t
use Rattle.cad_grammar.specs.declared.type_expr.TypeExpr.{TypeExpr, TypeExpr-F, fold-TypeExpr}
use Rattle.cad_grammar.specs.declared.type_expr.TypeAnnotation.{TypeAnnotation, TypeAnnotation-F, fold-TypeAnnotation}
use Rattle.cad_grammar.specs.declared.expression.Expr.{Expr, Expr-F, fold-Expr}
use Rattle.cad_grammar.specs.declared.expression.Argument.{Argument, Argument-F, fold-Argument}
use Rattle.cad_grammar.specs.declared.expression.Entry.{Entry, Entry-F, fold-Entry}
use Rattle.cad_grammar.specs.declared.statement.Test.{Test}
use Rattle.cad_grammar.specs.declared.statement.Test.TheVariants as test
use Rattle.cad_grammar.specs.declared.statement.Transfer.{Transfer}
use Rattle.cad_grammar.specs.declared.statement.Stmt.{Stmt, Stmt-F, fold-Stmt}
use Rattle.cad_grammar.specs.declared.statement.Otherwise.{Otherwise, Otherwise-F, fold-Otherwise}
use Rattle.cad_grammar.specs.declared.statement.Case.{Case, Case-F, fold-Case}
use Rattle.std.specs.declared.vec.Vec.{Vec}
use Rattle.std.specs.declared.alloc.Global.{Global}
use Rattle.cad_grammar.specs.declared.declaration.Parameter.{Parameter}
use Rattle.cad_grammar.specs.declared.declaration.FunctionBlock.{FunctionBlock}
use Rattle.cad_grammar.specs.declared.declaration.Function.{Function}
use Rattle.cad_grammar.specs.declared.declaration.Init.{Init}
use Rattle.cad_grammar.specs.declared.declaration.Field.{Field}
use Rattle.cad_grammar.specs.declared.declaration.EventParameter.{EventParameter}
use Rattle.cad_grammar.specs.declared.declaration.Event.{Event}
use Rattle.cad_grammar.specs.declared.declaration.Composite.{Composite}
use Rattle.cad_grammar.specs.declared.declaration.Interface.{Interface}
use Rattle.cad_grammar.specs.declared.declaration.Enum.{Enum}
use Rattle.cad_grammar.specs.declared.declaration.Mapping.{Mapping}
use Rattle.cad_grammar.specs.declared.declaration.Contract.{Contract}
use Rattle.cad_grammar.specs.declared.declaration.TransactionField.{TransactionField}
use Rattle.cad_grammar.specs.declared.declaration.Prepare.{Prepare}
use Rattle.cad_grammar.specs.declared.declaration.Transaction.{Transaction}
use Rattle.cad_grammar.specs.declared.declaration.Program.{Program}
use Rattle.cad_grammar.specs.declared.declaration.Condition.{Condition}
use Rattle.cad_grammar.specs.declared.declaration.Condition.TheVariants as condition
use Rattle.cad_grammar.specs.declared.declaration.CompositeMember.{CompositeMember}
use Rattle.cad_grammar.specs.declared.declaration.CompositeMember.TheVariants as composite_member
use Rattle.cad_grammar.specs.declared.declaration.InterfaceMember.{InterfaceMember}
use Rattle.cad_grammar.specs.declared.declaration.InterfaceMember.TheVariants as interface_member
use Rattle.cad_grammar.specs.declared.declaration.ContractMember.{ContractMember}
use Rattle.cad_grammar.specs.declared.declaration.ContractMember.TheVariants as contract_member
use Rattle.cad_grammar.specs.declared.declaration.Decl.{Decl}
use Rattle.cad_grammar.specs.declared.declaration.Decl.TheVariants as decl

abbrev pub type_step : TypeExpr-F t.TypeTree t.Annotation → t.TypeTree
type_step (TypeExpr-F.Named n v) = t.named n (t.annotations_of v.items)
type_step (TypeExpr-F.Reference a b) = t.reference a b.value
type_step (TypeExpr-F.Array b) = t.array b.value
type_step (TypeExpr-F.Dictionary k v) = t.dictionary k.value v.value
type_step (TypeExpr-F.Intersection all) = t.intersection all
type_step (TypeExpr-F.Optional b) = t.optional b.value

abbrev pub annotation_step : TypeAnnotation-F t.TypeTree t.Annotation → t.Annotation
annotation_step a = record { is_resource = a.is_resource; written = a.written }

abbrev pub type_of : TypeExpr → t.TypeTree
type_of = fold-TypeExpr t.TypeTree t.Annotation type_step annotation_step

abbrev pub annotation_of : TypeAnnotation → t.Annotation
annotation_of = fold-TypeAnnotation t.TypeTree t.Annotation type_step annotation_step

abbrev pub expr_step : Expr-F t.ExprTree t.ArgumentTree t.EntryTree → t.ExprTree
expr_step (Expr-F.Whole n h) = t.whole n h
expr_step (Expr-F.Fixed n) = t.fixed n
expr_step (Expr-F.Text text) = t.text text
expr_step (Expr-F.Bool b) = t.bool b
expr_step Expr-F.Nil = t.nil
expr_step Expr-F.Self_ = t.self
expr_step (Expr-F.Name n) = t.name n
expr_step (Expr-F.Path p) = t.path p
expr_step (Expr-F.Create n v) = t.create n (t.arguments_of v.items)
expr_step (Expr-F.Array v) = t.list (t.exprs_of v.items)
expr_step (Expr-F.Dictionary v) = t.pairs (t.entries_of v.items)
expr_step (Expr-F.Member a n) = t.member a.value n
expr_step (Expr-F.OptionalMember a n) = t.optional_member a.value n
expr_step (Expr-F.Index a b) = t.index a.value b.value
expr_step (Expr-F.Call f types v) = t.call f.value (t.annotations_of (map annotation_of types.items)) (t.arguments_of v.items)
expr_step (Expr-F.Force a) = t.force a.value
expr_step (Expr-F.Unary op a) = t.unary op a.value
expr_step (Expr-F.Reference a to) = t.borrow a.value (type_of to)
expr_step (Expr-F.Cast kind a to) = t.cast kind a.value (annotation_of to)
expr_step (Expr-F.Binary op a b) = t.binary op a.value b.value
expr_step (Expr-F.Conditional a b c) = t.conditional a.value b.value c.value

abbrev pub argument_step : Argument-F t.ExprTree t.ArgumentTree t.EntryTree → t.ArgumentTree
argument_step a = record { label = a.label; value = a.value }

abbrev pub entry_step : Entry-F t.ExprTree t.ArgumentTree t.EntryTree → t.EntryTree
entry_step e = record { key = e.key; value = e.value }

abbrev pub expr_of : Expr → t.ExprTree
expr_of = fold-Expr t.ExprTree t.ArgumentTree t.EntryTree expr_step argument_step entry_step

abbrev pub argument_of : Argument → t.ArgumentTree
argument_of = fold-Argument t.ExprTree t.ArgumentTree t.EntryTree expr_step argument_step entry_step

abbrev pub entry_of : Entry → t.EntryTree
entry_of = fold-Entry t.ExprTree t.ArgumentTree t.EntryTree expr_step argument_step entry_step

-- ---- statements

abbrev pub test_of : Test → t.TestTree
test_of (test.Expr e) = t.expression_test (expr_of e)
test_of (test.Binding kind n a transfer e) = t.binding kind n (option_map annotation_of a) transfer (expr_of e)

abbrev pub second_of : Transfer × Expr → t.SecondTree
second_of x = record { transfer = x.0; value = expr_of x.1 }

abbrev pub default_of : Option (List t.StmtTree) → t.Default
default_of None = t.no_default
default_of (Some all) = t.default (t.stmts_of all)

abbrev pub stmt_step : Stmt-F t.OtherwiseTree t.StmtTree t.CaseTree → t.StmtTree
stmt_step (Stmt-F.Variable kind n a transfer e second) = t.variable kind n (option_map annotation_of a) transfer (expr_of e) (option_map second_of second)
stmt_step (Stmt-F.Stmt::If test then otherwise) = t.if_else (test_of test) (t.stmts_of then.items) otherwise
stmt_step (Stmt-F.While e v) = t.while_loop (expr_of e) (t.stmts_of v.items)
stmt_step (Stmt-F.For i n e v) = t.for_loop i n (expr_of e) (t.stmts_of v.items)
stmt_step (Stmt-F.Switch e v d) = t.switch (expr_of e) (t.cases_of v.items) (default_of (option_map (λ w. w.items) d))
stmt_step Stmt-F.Break = t.break_loop
stmt_step Stmt-F.Continue = t.continue_loop
stmt_step (Stmt-F.Return e) = t.return_value (option_map expr_of e)
stmt_step (Stmt-F.Emit e) = t.emit (expr_of e)
stmt_step (Stmt-F.Assignment a transfer e) = t.assignment (expr_of a) transfer (expr_of e)
stmt_step (Stmt-F.Swap a b) = t.swap (expr_of a) (expr_of b)
stmt_step (Stmt-F.Expr e) = t.expression (expr_of e)

abbrev pub otherwise_step : Otherwise-F t.OtherwiseTree t.StmtTree t.CaseTree → t.OtherwiseTree
otherwise_step Otherwise-F.Nothing = t.nothing
otherwise_step (Otherwise-F.Block v) = t.else_block (t.stmts_of v.items)
otherwise_step (Otherwise-F.Otherwise::If s) = t.else_if s.value

abbrev pub case_step : Case-F t.OtherwiseTree t.StmtTree t.CaseTree → t.CaseTree
case_step c = record { value = expr_of c.value; body = c.body.items }

abbrev pub stmt_of : Stmt → t.StmtTree
stmt_of = fold-Stmt t.OtherwiseTree t.StmtTree t.CaseTree otherwise_step stmt_step case_step

abbrev pub otherwise_of : Otherwise → t.OtherwiseTree
otherwise_of = fold-Otherwise t.OtherwiseTree t.StmtTree t.CaseTree otherwise_step stmt_step case_step

abbrev pub case_of : Case → t.CaseTree
case_of = fold-Case t.OtherwiseTree t.StmtTree t.CaseTree otherwise_step stmt_step case_step

-- ---- declarations

abbrev pub parameter_of : Parameter → t.ParameterTree
parameter_of x = record { label = x.label; name = x.name; annotation = annotation_of x.annotation }

abbrev pub condition_of : Condition → t.ConditionTree
condition_of (condition.Test e m) = t.test (expr_of e) (option_map expr_of m)
condition_of (condition.Emit e) = t.emitted (expr_of e)

abbrev pub conditions_of : Option (Vec Condition Global) → Option (List t.ConditionTree)
conditions_of = option_map (λ v. map condition_of v.items)

abbrev pub block_of : FunctionBlock → t.FunctionBlockTree
block_of x = record { pre = conditions_of x.pre; post = conditions_of x.post; body = map stmt_of x.body.items }

abbrev pub function_of : Function → t.FunctionTree
function_of x = record {
  access = x.access;
  is_view = x.is_view;
  name = x.name;
  parameters = map parameter_of x.parameters.items;
  result = option_map annotation_of x.result;
  block = option_map block_of x.block;
}

abbrev pub init_of : Init → t.InitTree
init_of x = record { is_view = x.is_view; parameters = map parameter_of x.parameters.items; block = block_of x.block }

abbrev pub field_of : Field → t.FieldTree
field_of x = record { access = x.access; kind = x.kind; name = x.name; annotation = annotation_of x.annotation }

abbrev pub event_parameter_of : EventParameter → t.EventParameterTree
event_parameter_of x = record { parameter = parameter_of x.parameter; default_value = option_map expr_of x.default }

abbrev pub event_of : Event → t.EventTree
event_of x = record { access = x.access; name = x.name; parameters = map event_parameter_of x.parameters.items }

abbrev pub composite_member_of : CompositeMember → t.CompositeMemberTree
composite_member_of (composite_member.Field x) = t.field (field_of x)
composite_member_of (composite_member.Function x) = t.function (function_of x)
composite_member_of (composite_member.Init x) = t.init (init_of x)
composite_member_of (composite_member.Event x) = t.event (event_of x)

abbrev pub composite_of : Composite → t.CompositeTree
composite_of x = record { access = x.access; kind = x.kind; name = x.name; conformances = x.conformances; members = map composite_member_of x.members.items }

abbrev pub interface_member_of : InterfaceMember → t.InterfaceMemberTree
interface_member_of (interface_member.Field x) = t.interface_field (field_of x)
interface_member_of (interface_member.Function x) = t.interface_function (function_of x)

abbrev pub interface_of : Interface → t.InterfaceTree
interface_of x = record { access = x.access; kind = x.kind; name = x.name; conformances = x.conformances; members = map interface_member_of x.members.items }

abbrev pub enum_of : Enum → t.EnumTree
enum_of x = record { access = x.access; name = x.name; raw = x.raw; cases = x.cases.items }

abbrev pub mapping_of : Mapping → t.MappingTree
mapping_of x = record { access = x.access; name = x.name; items = x.items.items }

abbrev pub contract_member_of : ContractMember → t.ContractMemberTree
contract_member_of (contract_member.Field x) = t.contract_field (field_of x)
contract_member_of (contract_member.Function x) = t.contract_function (function_of x)
contract_member_of (contract_member.Init x) = t.contract_init (init_of x)
contract_member_of (contract_member.Composite x) = t.composite (composite_of x)
contract_member_of (contract_member.Interface x) = t.interface (interface_of x)
contract_member_of (contract_member.Event x) = t.contract_event (event_of x)
contract_member_of (contract_member.Enum x) = t.enumeration (enum_of x)
contract_member_of (contract_member.Entitlement x) = t.entitlement x
contract_member_of (contract_member.Mapping x) = t.mapping (mapping_of x)

abbrev pub contract_of : Contract → t.ContractTree
contract_of x = record { access = x.access; name = x.name; members = map contract_member_of x.members.items }

abbrev pub transaction_field_of : TransactionField → t.TransactionFieldTree
transaction_field_of x = record { kind = x.kind; name = x.name; annotation = annotation_of x.annotation }

abbrev pub prepare_of : Prepare → t.PrepareTree
prepare_of x = record { parameters = map parameter_of x.parameters.items; body = map stmt_of x.body.items }

abbrev pub transaction_of : Transaction → t.TransactionTree
transaction_of x = record {
  parameters = option_map (λ v. map parameter_of v.items) x.parameters;
  fields = map transaction_field_of x.fields.items;
  prepare = option_map prepare_of x.prepare;
  pre = conditions_of x.pre;
  execute = option_map (λ v. map stmt_of v.items) x.execute;
  post = conditions_of x.post;
}

abbrev pub decl_of : Decl → t.DeclTree
decl_of (decl.Contract x) = t.contract (contract_of x)
decl_of (decl.Function x) = t.top_function (function_of x)
decl_of (decl.Transaction x) = t.transaction (transaction_of x)

abbrev pub program_of : Program → t.ProgramTree
program_of x = record { imports = x.imports.items; declarations = map decl_of x.declarations.items }
