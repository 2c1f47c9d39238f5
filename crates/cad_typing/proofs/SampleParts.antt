-- Small programs, by which samples are told.
use Rattle.std.specs.Prelude.{ℕ, Bool, true, false, Option, Some, None, Result, Ok, Err, List, [], ◌∷◌, codes, map}
use Rattle.std.specs.Result.{result_err, result_ok}
use Rattle.cad_syntax.specs.declared.address.Address.{Address}
use Rattle.cad_syntax.specs.declared.text.Name.{Name}
use Rattle.cad_grammar.specs.Trees as s
use Rattle.cad_grammar.specs.Trees.{ExprTree, StmtTree, TypeTree, Annotation}
use Rattle.cad_grammar.specs.declared.declaration.Access.TheVariants as access
use Rattle.cad_grammar.specs.declared.declaration.CompositeKind.TheVariants as kind
use Rattle.cad_grammar.specs.declared.expression.UnaryOperator.TheVariants as unary
use Rattle.cad_grammar.specs.declared.statement.Transfer.TheVariants as sign
use Rattle.cad_grammar.specs.declared.statement.VariableKind.TheVariants as v
use Rattle.cad_declarations.specs.Build.{build, stop_at}
use Rattle.cad_declarations.specs.Members.{first_some}
use Rattle.cad_declarations.specs.Points.{word}
use Rattle.cad_declarations.specs.Tables.{ProgramTables}
use Rattle.cad_declarations.specs.declared.stop.Stop.{Stop}
use Rattle.cad_typing.specs.Pieces.{Piece, PieceBody, program_pieces}

-- ---- names and types

abbrev pub a : Name
a = word (codes "a")

abbrev pub b : Name
b = word (codes "b")

abbrev pub f : Name
f = word (codes "f")

abbrev pub C : Name
C = word (codes "C")

abbrev pub R : Name
R = word (codes "R")

abbrev pub S : Name
S = word (codes "S")

abbrev pub type : List ℕ → TypeTree
type text = s.named (word text ∷ []) s.no_annotations

-- a type without `@`, and with it
abbrev pub of : TypeTree → Annotation
of t = record { is_resource = false; written = t }

abbrev pub at : TypeTree → Annotation
at t = record { is_resource = true; written = t }

abbrev pub int : Annotation
int = of (type (codes "Int"))

abbrev pub some_int : Annotation
some_int = of (s.optional (type (codes "Int")))

abbrev pub resource : Annotation
resource = at (type (codes "R"))

abbrev pub some_resource : Annotation
some_resource = at (s.optional (type (codes "R")))

-- ---- expressions

abbrev pub one : ExprTree
one = s.whole 1 false

abbrev pub use_of : Name → ExprTree
use_of name = s.name name

abbrev pub list_of_one : ExprTree
list_of_one = s.list (s.exprs one s.no_exprs)

-- a call without arguments, and with one that has no label
abbrev pub called : ExprTree → ExprTree
called x = s.call x s.no_annotations s.no_arguments

abbrev pub called_with : ExprTree → ExprTree → ExprTree
called_with x y = s.call x s.no_annotations (s.arguments None y s.no_arguments)

abbrev pub of_self : Name → ExprTree
of_self name = s.member s.self name

abbrev pub move : ExprTree → ExprTree
move x = s.unary unary.Move x

abbrev pub destroyed : Name → StmtTree
destroyed name = s.expression (s.unary unary.Destroy (use_of name))

abbrev pub made : ExprTree
made = s.create (R ∷ []) s.no_arguments

-- ---- statements

-- `let n = x`, `let n: t = x`, and the same by `<-` and by `var`
abbrev pub let_is : Name → ExprTree → StmtTree
let_is name x = s.variable v.Let name None sign.Copy x None

abbrev pub let_of : Name → Annotation → ExprTree → StmtTree
let_of name t x = s.variable v.Let name (Some t) sign.Copy x None

abbrev pub let_moved : Name → ExprTree → StmtTree
let_moved name x = s.variable v.Let name None sign.Move x None

abbrev pub var_is : Name → ExprTree → StmtTree
var_is name x = s.variable v.Var name None sign.Copy x None

abbrev pub var_moved : Name → Annotation → ExprTree → StmtTree
var_moved name t x = s.variable v.Var name (Some t) sign.Move x None

abbrev pub set : ExprTree → ExprTree → StmtTree
set place x = s.assignment place sign.Copy x

abbrev pub returned : ExprTree → StmtTree
returned x = s.return_value (Some x)

abbrev pub block : List StmtTree → s.Stmts
block all = s.stmts_of all

abbrev pub if_true : List StmtTree → StmtTree
if_true all = s.if_else (s.expression_test (s.bool true)) (block all) s.nothing

-- ---- functions

abbrev pub parameter : Name → Annotation → s.ParameterTree
parameter name t = record { label = Some (word (codes "_")); name = name; annotation = t }

abbrev pub statements : List StmtTree → Option s.FunctionBlockTree
statements all = Some (record { pre = None; post = None; body = all })

abbrev pub conditions : List s.ConditionTree → List s.ConditionTree → List StmtTree → Option s.FunctionBlockTree
conditions pre post all = Some (record { pre = Some pre; post = Some post; body = all })

abbrev pub function : Name → List s.ParameterTree → Option Annotation → Option s.FunctionBlockTree → s.FunctionTree
function name parameters result block =
    record { access = access.All; is_view = false; name = name; parameters = parameters; result = result; block = block }

abbrev pub initializer : List StmtTree → s.CompositeMemberTree
initializer all = s.init (record { is_view = false; parameters = []; block = record { pre = None; post = None; body = all } })

abbrev pub field : Name → Annotation → s.FieldTree
field name t = record { access = access.All; kind = Some v.Var; name = name; annotation = t }

abbrev pub composite : Name → List s.CompositeMemberTree → s.CompositeTree
composite name members = record { access = access.All; kind = kind.Struct; name = name; conformances = []; members = members }

abbrev pub resource_composite : Name → List s.CompositeMemberTree → s.CompositeTree
resource_composite name members = record { access = access.All; kind = kind.Resource; name = name; conformances = []; members = members }

-- ---- where programs are ill-typed

abbrev pub program : List s.DeclTree → s.ProgramTree
program all = record { imports = []; declarations = all }

abbrev pub ill_at : Piece → Option Stop
ill_at p = by_typing p.typing
  where
    by_typing : Result PieceBody ℕ → Option Stop
    by_typing (Ok body) = None
    by_typing (Err n) = Some (stop_at p.inside n)

abbrev pub first_in : s.ProgramTree → Result ProgramTables Stop → Option Stop
first_in x (Ok tables) = first_some ill_at (program_pieces tables x)
first_in x (Err stop) = Some stop

-- where a program without imports is ill-typed first; that functions return isn't asked
abbrev pub ill : Option Address → List s.DeclTree → Option Stop
ill place all = first_in (program all) (build [] place (program all))

-- of a contract C at 0x1
abbrev pub ill_contract : List s.ContractMemberTree → Option Stop
ill_contract members = ill (Some (record { 0 = 1 })) (s.contract (record { access = access.All; name = C; members = members }) ∷ [])

-- of these statements, in a function f outside a contract
abbrev pub ill_script : List StmtTree → Option Stop
ill_script all = ill None (s.top_function (function f [] None (statements all)) ∷ [])

abbrev pub in_script : ℕ → Option Stop
in_script n = Some (stop_at (f ∷ []) n)

-- of these statements, in a function f of a contract with an empty resource R
abbrev pub ill_with_resource : List StmtTree → Option Stop
ill_with_resource all =
    ill_contract (s.composite (resource_composite R []) ∷ s.contract_function (function f [] None (statements all)) ∷ [])

abbrev pub in_contract : ℕ → Option Stop
in_contract n = Some (stop_at (C ∷ f ∷ []) n)
