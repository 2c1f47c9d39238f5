-- The elaborated trees without where their parts lie in memory: names are resolved, and each part that is transferred has the
-- type of its place.
use Rattle.std.specs.Prelude.{ℕ, Bool, Option, List, [], ◌∷◌}
use Rattle.cad_syntax.specs.Types.{PureType}
use Rattle.cad_syntax.specs.declared.text.Name.{Name}
use Rattle.cad_syntax.specs.declared.address.Address.{Address}
use Rattle.cad_syntax.specs.declared.address.Path.{Path}
use Rattle.cad_syntax.specs.declared.num.Num.{Num}
use Rattle.cad_syntax.specs.declared.type_id.TypeId.{TypeId}
use Rattle.cad_syntax.specs.declared.types.Authorization.{Authorization}
use Rattle.cad_grammar.specs.declared.expression.UnaryOperator.{UnaryOperator}
use Rattle.cad_grammar.specs.declared.expression.BinaryOperator.{BinaryOperator}
use Rattle.cad_grammar.specs.declared.expression.CastKind.{CastKind}
use Rattle.cad_types.specs.declared.builtin.Builtin.{Builtin}

-- ---- expressions

mutual
  -- where a value stands
  pub data PlaceTree : Type 0 where
    -- a variable of the body: its number is how many were in scope, hidden ones among them, when it was declared
    variable : ℕ → PlaceTree
    -- the receiver of the function, or what the initializer makes
    self : PlaceTree
    -- the value of a contract
    contract : TypeId → PlaceTree
    -- what a reference names
    target : TermTree → PlaceTree
    -- a field of a place of this type
    field : PlaceTree → PureType → Name → PlaceTree
    -- an element of a place of this type, by its index or key
    element : PlaceTree → PureType → TermTree → PlaceTree
    -- the content of an optional place: whether nil is an error there, as in `a!`; else the chain that stands on it gives nil
    content : PlaceTree → Bool → PlaceTree

  -- what is done with a receiver
  pub data UseTree : Type 0 where
    -- a field is read; through a reference that gives a reference, its authorization is this
    get : Name → Authorization → UseTree
    -- a declared function is called: whether it is `view`, and whether it never ends
    method : Name → Bool → Bool → Arguments → UseTree
    builtin_field : Builtin → UseTree
    builtin_call : Builtin → List PureType → Arguments → UseTree

  pub data TermTree : Type 0 where
    -- a number of its kind, which isn't Address
    number : Num → TermTree
    address : Address → TermTree
    bool : Bool → TermTree
    nil : TermTree
    string : List ℕ → TermTree
    character : List ℕ → TermTree
    path : Path → TermTree
    -- `Type<T>()`
    meta : PureType → TermTree
    -- the case of an enum with this number
    case : TypeId → ℕ → TermTree
    -- the value of a variable, or of `self`, which stays
    copy : PlaceTree → TermTree
    -- the value leaves its place
    take : PlaceTree → TermTree
    -- an array of this element type
    array : PureType → Terms → TermTree
    -- a dictionary of this key and value type
    dictionary : PureType → PureType → TermEntries → TermTree
    -- a struct is made
    construct : TypeId → Arguments → TermTree
    create : TypeId → Arguments → TermTree
    -- a function that stands outside a contract is called: whether it is `view`, and whether it never ends
    call : Name → Bool → Bool → Arguments → TermTree
    -- a built-in function, or a built-in member of a type
    builtin : Builtin → List PureType → Arguments → TermTree
    -- `a.n`, `a.f(..)`
    on : PlaceTree → UseTree → TermTree
    -- `a?.n`, `a?.f(..)`, of the contents of optionals that stand in the place: nil where one of them is nil, and whether
    -- the result is wrapped in an optional
    chain : PlaceTree → UseTree → Bool → TermTree
    -- `a[e]`, where a has this type
    index : PlaceTree → PureType → TermTree → TermTree
    -- a hidden variable with this number, of this type, holds the value while the body is evaluated
    hold : ℕ → PureType → TermTree → TermTree → TermTree
    destroy : TermTree → TermTree
    -- `&a as auth(..) &T`: whether one optional is taken off the place, and whether the result is an optional
    borrow : PlaceTree → Authorization → PureType → Bool → Bool → TermTree
    unary : UnaryOperator → TermTree → TermTree
    force : TermTree → TermTree
    cast : CastKind → TermTree → PureType → TermTree
    -- all operators but `??`
    binary : BinaryOperator → TermTree → TermTree → TermTree
    -- `a ?? b`: whether the content of a is taken, and the type of the form
    coalesce : TermTree → TermTree → Bool → PureType → TermTree
    -- `place == nil`; `!=` where it is negated
    is_nil : PlaceTree → Bool → TermTree
    conditional : TermTree → TermTree → TermTree → TermTree
    -- the value that the `before` with this number had
    before : ℕ → TermTree

  pub data Terms : Type 0 where
    no_terms : Terms
    terms : TermTree → Terms → Terms

  -- parts, each with the type of the place to which it is transferred
  pub data Arguments : Type 0 where
    no_arguments : Arguments
    arguments : TermTree → PureType → Arguments → Arguments

  -- keys and values
  pub data TermEntries : Type 0 where
    no_entries : TermEntries
    entries : TermTree → TermTree → TermEntries → TermEntries

pub record TargetedTerm : Type 0 where
  pub value : TermTree
  pub target : PureType

pub record TermPair : Type 0 where
  pub key : TermTree
  pub value : TermTree

abbrev pub terms_of : List TermTree → Terms
terms_of [] = no_terms
terms_of (e ∷ all) = terms e (terms_of all)

abbrev pub arguments_of : List TargetedTerm → Arguments
arguments_of [] = no_arguments
arguments_of (a ∷ all) = arguments a.value a.target (arguments_of all)

abbrev pub entries_of : List TermPair → TermEntries
entries_of [] = no_entries
entries_of (e ∷ all) = entries e.key e.value (entries_of all)

-- ---- statements

pub record VariableEntry : Type 0 where
  pub number : ℕ
  pub name : Name
  pub type : PureType
  pub is_resource : Bool

mutual
  -- each with its number in the body
  pub data StatementTree : Type 0 where
    declare : ℕ → VariableEntry → TermTree → StatementTree
    -- `let old <- place <- e`, where the place has this type
    exchange : ℕ → VariableEntry → PlaceTree → PureType → TermTree → StatementTree
    -- `place = e`, or the first setting of a field by `<-`; the type of the place
    assign : ℕ → PlaceTree → TermTree → PureType → StatementTree
    force_assign : ℕ → PlaceTree → TermTree → PureType → StatementTree
    swap : ℕ → PlaceTree → PureType → PlaceTree → PureType → StatementTree
    expression : ℕ → TermTree → StatementTree
    if_else : ℕ → TermTree → BlockTree → BlockTree → StatementTree
    -- `if let a = e`, where e is transferred to this optional type
    if_let : ℕ → VariableEntry → TermTree → PureType → BlockTree → BlockTree → StatementTree
    -- `if let a <- place as? @T`
    if_cast : ℕ → VariableEntry → PlaceTree → PureType → BlockTree → BlockTree → StatementTree
    while_loop : ℕ → TermTree → BlockTree → StatementTree
    -- the variable of the index, that of the element, the array and its type
    for_loop : ℕ → Option VariableEntry → VariableEntry → TermTree → PureType → BlockTree → StatementTree
    switch : ℕ → TermTree → TypedCases → BlockTree → StatementTree
    break_loop : ℕ → StatementTree
    continue_loop : ℕ → StatementTree
    return_nothing : ℕ → StatementTree
    return_value : ℕ → TermTree → PureType → StatementTree
    emit : ℕ → TypeId → Arguments → StatementTree

  -- how many variables are in scope where the block begins, and its statements
  pub data BlockTree : Type 0 where
    block : ℕ → Statements → BlockTree

  pub data Statements : Type 0 where
    no_statements : Statements
    statements : StatementTree → Statements → Statements

  pub data TypedCases : Type 0 where
    no_cases : TypedCases
    cases : TermTree → BlockTree → TypedCases → TypedCases

pub record TypedCaseTree : Type 0 where
  pub value : TermTree
  pub body : BlockTree

abbrev pub statements_of : List StatementTree → Statements
statements_of [] = no_statements
statements_of (s ∷ all) = statements s (statements_of all)

abbrev pub cases_of : List TypedCaseTree → TypedCases
cases_of [] = no_cases
cases_of (c ∷ all) = cases c.value c.body (cases_of all)

-- ---- bodies

pub data ConditionBody : Type 0 where
  -- the test, and the message where there is one
  test : ℕ → TermTree → Option TermTree → ConditionBody
  emitted : ℕ → TypeId → Arguments → ConditionBody

-- what stands under `before`, with the number of its condition
pub record BeforeTree : Type 0 where
  pub at : ℕ
  pub value : TermTree

-- A function or an initializer. Its parameters have the numbers from 0; in its postconditions the result has the next.
pub record FunctionBody : Type 0 where
  -- its names, as refusals name it
  pub inside : List Name
  pub is_view : Bool
  pub parameters : List VariableEntry
  pub result : PureType
  -- the result in postconditions; of a resource a reference to it
  pub result_variable : Option VariableEntry
  pub pre : List ConditionBody
  pub before : List BeforeTree
  pub post : List ConditionBody
  -- a function of an interface may have none
  pub body : Option BlockTree
  -- how many statements and conditions there are
  pub statements : ℕ

-- A transaction. Its fields have the numbers from 0, its parameters the next; then come those of `prepare`.
pub record TransactionBody : Type 0 where
  pub fields : List VariableEntry
  pub parameters : List VariableEntry
  pub signers : List VariableEntry
  pub prepare : Option BlockTree
  pub pre : List ConditionBody
  pub before : List BeforeTree
  pub execute : Option BlockTree
  pub post : List ConditionBody
  -- how many statements and conditions `prepare`, `pre`, `execute` and `post` have
  pub prepare_statements : ℕ
  pub pre_statements : ℕ
  pub execute_statements : ℕ
  pub post_statements : ℕ

-- the body of one part of a program
pub data PartBody : Type 0 where
  function_part : FunctionBody → PartBody
  initializer_part : FunctionBody → PartBody
  transaction_part : TransactionBody → PartBody

pub record MemberBody : Type 0 where
  pub name : Name
  pub function : FunctionBody

-- the event `ResourceDestroyed` of a resource: its default arguments, over the resource as `self`
pub record DestroyedBody : Type 0 where
  pub event : TypeId
  pub arguments : List TargetedTerm

-- the bodies of a declared type: its functions in order
pub record TypeBody : Type 0 where
  pub id : TypeId
  pub initializer : Option FunctionBody
  pub functions : List MemberBody
  pub destroyed : Option DestroyedBody

-- the bodies of a program, its imports' not among them
pub record ProgramBodies : Type 0 where
  pub types : List TypeBody
  pub functions : List MemberBody
  pub transaction : Option TransactionBody
