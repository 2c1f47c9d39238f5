-- What the readers give, without where it lies in memory.
use Rattle.std.specs.Prelude.{Option, option_map, List, map}
use Rattle.std.specs.declared.vec.Vec.{Vec}
use Rattle.std.specs.declared.alloc.Global.{Global}
use Rattle.cad_syntax.specs.declared.text.Name.{Name}
use Rattle.cad_grammar.specs.Trees.{Annotation, ExprTree, ParameterTree, ConditionTree, FunctionBlockTree, EventParameterTree, CompositeMemberTree, InterfaceMemberTree, ContractMemberTree, TransactionFieldTree, PrepareTree, StmtTree, DeclTree}
use Rattle.cad_grammar.specs.Views.{annotation_of, expr_of, parameter_of, condition_of, block_of, event_parameter_of, composite_member_of, interface_member_of, contract_member_of, transaction_field_of, prepare_of, decl_of}
use Rattle.cad_grammar.specs.declared.type_expr.TypeAnnotation.{TypeAnnotation}
use Rattle.cad_grammar.specs.declared.expression.Expr.{Expr}
use Rattle.cad_grammar.specs.declared.declaration.Parameter.{Parameter}
use Rattle.cad_grammar.specs.declared.declaration.Condition.{Condition}
use Rattle.cad_grammar.specs.declared.declaration.FunctionBlock.{FunctionBlock}
use Rattle.cad_grammar.specs.declared.declaration.EventParameter.{EventParameter}
use Rattle.cad_grammar.specs.declared.declaration.EnumCase.{EnumCase}
use Rattle.cad_grammar.specs.declared.declaration.CompositeMember.{CompositeMember}
use Rattle.cad_grammar.specs.declared.declaration.InterfaceMember.{InterfaceMember}
use Rattle.cad_grammar.specs.declared.declaration.ContractMember.{ContractMember}
use Rattle.cad_grammar.specs.declared.declaration.TransactionField.{TransactionField}
use Rattle.cad_grammar.specs.declared.declaration.Prepare.{Prepare}
use Rattle.cad_grammar.specs.declared.declaration.Decl.{Decl}
use Rattle.cad_grammar.specs.declared.statement.Stmt.{Stmt}
use Rattle.cad_parse_statement.specs.Code.Views.{stmts_in}

abbrev pub same : {A : Type 0} → A → A
same a = a

abbrev pub items_in : {A : Type 0} → Vec A Global → List A
items_in v = v.items

abbrev pub parameters_in : Vec Parameter Global → List ParameterTree
parameters_in v = map parameter_of v.items

abbrev pub maybe_parameters_in : Option (Vec Parameter Global) → Option (List ParameterTree)
maybe_parameters_in = option_map parameters_in

abbrev pub conditions_in : Vec Condition Global → List ConditionTree
conditions_in v = map condition_of v.items

abbrev pub maybe_conditions_in : Option (Vec Condition Global) → Option (List ConditionTree)
maybe_conditions_in = option_map conditions_in

abbrev pub maybe_expr_of : Option Expr → Option ExprTree
maybe_expr_of = option_map expr_of

abbrev pub maybe_block_of : Option FunctionBlock → Option FunctionBlockTree
maybe_block_of = option_map block_of

abbrev pub event_parameters_in : Vec EventParameter Global → List EventParameterTree
event_parameters_in v = map event_parameter_of v.items

abbrev pub composite_members_in : Vec CompositeMember Global → List CompositeMemberTree
composite_members_in v = map composite_member_of v.items

abbrev pub interface_members_in : Vec InterfaceMember Global → List InterfaceMemberTree
interface_members_in v = map interface_member_of v.items

abbrev pub contract_members_in : Vec ContractMember Global → List ContractMemberTree
contract_members_in v = map contract_member_of v.items

abbrev pub fields_in : Vec TransactionField Global → List TransactionFieldTree
fields_in v = map transaction_field_of v.items

abbrev pub maybe_prepare_of : Option Prepare → Option PrepareTree
maybe_prepare_of = option_map prepare_of

abbrev pub maybe_stmts_in : Option (Vec Stmt Global) → Option (List StmtTree)
maybe_stmts_in = option_map stmts_in

abbrev pub declarations_in : Vec Decl Global → List DeclTree
declarations_in v = map decl_of v.items

-- ---- what stands behind the head of a declaration

abbrev pub function_body_in : (Name × Vec Parameter Global) × (Option TypeAnnotation × Option FunctionBlock) → (Name × List ParameterTree) × (Option Annotation × Option FunctionBlockTree)
function_body_in x = ((x.0.0, parameters_in x.0.1), (option_map annotation_of x.1.0, maybe_block_of x.1.1))

abbrev pub composite_body_in : List (List Name) × Vec CompositeMember Global → List (List Name) × List CompositeMemberTree
composite_body_in x = (x.0, composite_members_in x.1)

abbrev pub interface_body_in : List (List Name) × Vec InterfaceMember Global → List (List Name) × List InterfaceMemberTree
interface_body_in x = (x.0, interface_members_in x.1)

abbrev pub enum_body_in : List Name × Vec EnumCase Global → List Name × List EnumCase
enum_body_in x = (x.0, items_in x.1)

abbrev pub phases_in : (Option (Vec Condition Global) × Option (Vec Stmt Global)) × Option (Vec Condition Global) → (Option (List ConditionTree) × Option (List StmtTree)) × Option (List ConditionTree)
phases_in x = ((maybe_conditions_in x.0.0, maybe_stmts_in x.0.1), maybe_conditions_in x.1)

abbrev pub transaction_body_in : (Vec TransactionField Global × Option Prepare) × ((Option (Vec Condition Global) × Option (Vec Stmt Global)) × Option (Vec Condition Global))
    → (List TransactionFieldTree × Option PrepareTree) × ((Option (List ConditionTree) × Option (List StmtTree)) × Option (List ConditionTree))
transaction_body_in x = ((fields_in x.0.0, maybe_prepare_of x.0.1), phases_in x.1)
