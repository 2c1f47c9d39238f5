-- The trees without where their parts lie in memory.
use Rattle.std.specs.Prelude.{ℕ, Bool, Option, List, [], ◌∷◌}
use Rattle.cad_syntax.specs.declared.text.Name.{Name}
use Rattle.cad_syntax.specs.declared.address.Path.{Path}
use Rattle.cad_grammar.specs.declared.type_expr.Entitlements.{Entitlements}
use Rattle.cad_grammar.specs.declared.expression.UnaryOperator.{UnaryOperator}
use Rattle.cad_grammar.specs.declared.expression.BinaryOperator.{BinaryOperator}
use Rattle.cad_grammar.specs.declared.expression.CastKind.{CastKind}
use Rattle.cad_grammar.specs.declared.statement.VariableKind.{VariableKind}
use Rattle.cad_grammar.specs.declared.statement.Transfer.{Transfer}
use Rattle.cad_grammar.specs.declared.declaration.Access.{Access}
use Rattle.cad_grammar.specs.declared.declaration.CompositeKind.{CompositeKind}
use Rattle.cad_grammar.specs.declared.declaration.EnumCase.{EnumCase}
use Rattle.cad_grammar.specs.declared.declaration.Entitlement.{Entitlement}
use Rattle.cad_grammar.specs.declared.declaration.MappingItem.{MappingItem}
use Rattle.cad_grammar.specs.declared.declaration.Import.{Import}

-- ---- types

mutual
  pub data TypeTree : Type 0 where
    named : List Name → Annotations → TypeTree
    reference : Option Entitlements → TypeTree → TypeTree
    array : TypeTree → TypeTree
    dictionary : TypeTree → TypeTree → TypeTree
    intersection : List (List Name) → TypeTree
    optional : TypeTree → TypeTree

  -- a list of types, each with `@` before it or without
  pub data Annotations : Type 0 where
    no_annotations : Annotations
    annotations : Bool → TypeTree → Annotations → Annotations

pub record Annotation : Type 0 where
  pub is_resource : Bool
  pub written : TypeTree

abbrev pub annotations_of : List Annotation → Annotations
annotations_of [] = no_annotations
annotations_of (a ∷ all) = annotations a.is_resource a.written (annotations_of all)

-- ---- expressions

mutual
  pub data ExprTree : Type 0 where
    whole : ℕ → Bool → ExprTree
    fixed : ℕ → ExprTree
    text : List ℕ → ExprTree
    bool : Bool → ExprTree
    nil : ExprTree
    self : ExprTree
    name : Name → ExprTree
    path : Path → ExprTree
    create : List Name → Arguments → ExprTree
    list : Exprs → ExprTree
    pairs : Entries → ExprTree
    member : ExprTree → Name → ExprTree
    optional_member : ExprTree → Name → ExprTree
    index : ExprTree → ExprTree → ExprTree
    call : ExprTree → Annotations → Arguments → ExprTree
    force : ExprTree → ExprTree
    unary : UnaryOperator → ExprTree → ExprTree
    borrow : ExprTree → TypeTree → ExprTree
    cast : CastKind → ExprTree → Annotation → ExprTree
    binary : BinaryOperator → ExprTree → ExprTree → ExprTree
    conditional : ExprTree → ExprTree → ExprTree → ExprTree

  pub data Exprs : Type 0 where
    no_exprs : Exprs
    exprs : ExprTree → Exprs → Exprs

  pub data Arguments : Type 0 where
    no_arguments : Arguments
    arguments : Option Name → ExprTree → Arguments → Arguments

  pub data Entries : Type 0 where
    no_entries : Entries
    entries : ExprTree → ExprTree → Entries → Entries

pub record ArgumentTree : Type 0 where
  pub label : Option Name
  pub value : ExprTree

pub record EntryTree : Type 0 where
  pub key : ExprTree
  pub value : ExprTree

abbrev pub exprs_of : List ExprTree → Exprs
exprs_of [] = no_exprs
exprs_of (e ∷ all) = exprs e (exprs_of all)

abbrev pub arguments_of : List ArgumentTree → Arguments
arguments_of [] = no_arguments
arguments_of (a ∷ all) = arguments a.label a.value (arguments_of all)

abbrev pub entries_of : List EntryTree → Entries
entries_of [] = no_entries
entries_of (e ∷ all) = entries e.key e.value (entries_of all)

-- ---- statements

pub data TestTree : Type 0 where
  expression_test : ExprTree → TestTree
  binding : VariableKind → Name → Option Annotation → Transfer → ExprTree → TestTree

pub record SecondTree : Type 0 where
  pub transfer : Transfer
  pub value : ExprTree

mutual
  pub data StmtTree : Type 0 where
    variable : VariableKind → Name → Option Annotation → Transfer → ExprTree → Option SecondTree → StmtTree
    if_else : TestTree → Stmts → OtherwiseTree → StmtTree
    while_loop : ExprTree → Stmts → StmtTree
    for_loop : Option Name → Name → ExprTree → Stmts → StmtTree
    switch : ExprTree → Cases → Default → StmtTree
    break_loop : StmtTree
    continue_loop : StmtTree
    return_value : Option ExprTree → StmtTree
    emit : ExprTree → StmtTree
    assignment : ExprTree → Transfer → ExprTree → StmtTree
    swap : ExprTree → ExprTree → StmtTree
    expression : ExprTree → StmtTree

  pub data Stmts : Type 0 where
    no_stmts : Stmts
    stmts : StmtTree → Stmts → Stmts

  pub data OtherwiseTree : Type 0 where
    nothing : OtherwiseTree
    else_block : Stmts → OtherwiseTree
    else_if : StmtTree → OtherwiseTree

  pub data Cases : Type 0 where
    no_cases : Cases
    cases : ExprTree → Stmts → Cases → Cases

  pub data Default : Type 0 where
    no_default : Default
    default : Stmts → Default

pub record CaseTree : Type 0 where
  pub value : ExprTree
  pub body : List StmtTree

abbrev pub stmts_of : List StmtTree → Stmts
stmts_of [] = no_stmts
stmts_of (s ∷ all) = stmts s (stmts_of all)

abbrev pub cases_of : List CaseTree → Cases
cases_of [] = no_cases
cases_of (c ∷ all) = cases c.value (stmts_of c.body) (cases_of all)

-- ---- declarations

pub record ParameterTree : Type 0 where
  pub label : Option Name
  pub name : Name
  pub annotation : Annotation

pub data ConditionTree : Type 0 where
  test : ExprTree → Option ExprTree → ConditionTree
  emitted : ExprTree → ConditionTree

pub record FunctionBlockTree : Type 0 where
  pub pre : Option (List ConditionTree)
  pub post : Option (List ConditionTree)
  pub body : List StmtTree

pub record FunctionTree : Type 0 where
  pub access : Access
  pub is_view : Bool
  pub name : Name
  pub parameters : List ParameterTree
  pub result : Option Annotation
  pub block : Option FunctionBlockTree

pub record InitTree : Type 0 where
  pub is_view : Bool
  pub parameters : List ParameterTree
  pub block : FunctionBlockTree

pub record FieldTree : Type 0 where
  pub access : Access
  pub kind : Option VariableKind
  pub name : Name
  pub annotation : Annotation

pub record EventParameterTree : Type 0 where
  pub parameter : ParameterTree
  pub default_value : Option ExprTree

pub record EventTree : Type 0 where
  pub access : Option Access
  pub name : Name
  pub parameters : List EventParameterTree

pub data CompositeMemberTree : Type 0 where
  field : FieldTree → CompositeMemberTree
  function : FunctionTree → CompositeMemberTree
  init : InitTree → CompositeMemberTree
  event : EventTree → CompositeMemberTree

pub record CompositeTree : Type 0 where
  pub access : Access
  pub kind : CompositeKind
  pub name : Name
  pub conformances : List (List Name)
  pub members : List CompositeMemberTree

pub data InterfaceMemberTree : Type 0 where
  interface_field : FieldTree → InterfaceMemberTree
  interface_function : FunctionTree → InterfaceMemberTree

pub record InterfaceTree : Type 0 where
  pub access : Access
  pub kind : CompositeKind
  pub name : Name
  pub conformances : List (List Name)
  pub members : List InterfaceMemberTree

pub record EnumTree : Type 0 where
  pub access : Access
  pub name : Name
  pub raw : List Name
  pub cases : List EnumCase

pub record MappingTree : Type 0 where
  pub access : Access
  pub name : Name
  pub items : List MappingItem

pub data ContractMemberTree : Type 0 where
  contract_field : FieldTree → ContractMemberTree
  contract_function : FunctionTree → ContractMemberTree
  contract_init : InitTree → ContractMemberTree
  composite : CompositeTree → ContractMemberTree
  interface : InterfaceTree → ContractMemberTree
  contract_event : EventTree → ContractMemberTree
  enumeration : EnumTree → ContractMemberTree
  entitlement : Entitlement → ContractMemberTree
  mapping : MappingTree → ContractMemberTree

pub record ContractTree : Type 0 where
  pub access : Access
  pub name : Name
  pub members : List ContractMemberTree

pub record TransactionFieldTree : Type 0 where
  pub kind : VariableKind
  pub name : Name
  pub annotation : Annotation

pub record PrepareTree : Type 0 where
  pub parameters : List ParameterTree
  pub body : List StmtTree

pub record TransactionTree : Type 0 where
  pub parameters : Option (List ParameterTree)
  pub fields : List TransactionFieldTree
  pub prepare : Option PrepareTree
  pub pre : Option (List ConditionTree)
  pub execute : Option (List StmtTree)
  pub post : Option (List ConditionTree)

pub data DeclTree : Type 0 where
  contract : ContractTree → DeclTree
  top_function : FunctionTree → DeclTree
  transaction : TransactionTree → DeclTree

pub record ProgramTree : Type 0 where
  pub imports : List Import
  pub declarations : List DeclTree
