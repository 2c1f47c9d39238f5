-- What the readers give, without where it lies in memory.
use Rattle.std.specs.Prelude.{List, map, Option, option_map}
use Rattle.std.specs.declared.vec.Vec.{Vec}
use Rattle.std.specs.declared.alloc.Global.{Global}
use Rattle.cad_grammar.specs.Trees.{StmtTree, SecondTree, CaseTree, OtherwiseTree, Default}
use Rattle.cad_grammar.specs.Views.{stmt_of, case_of, otherwise_of, second_of, expr_of, annotation_of, default_of}
use Rattle.cad_grammar.specs.declared.expression.Expr.{Expr}
use Rattle.cad_grammar.specs.declared.statement.Transfer.{Transfer}
use Rattle.cad_grammar.specs.declared.statement.Stmt.{Stmt}
use Rattle.cad_grammar.specs.declared.statement.Case.{Case}
use Rattle.cad_grammar.specs.declared.statement.Otherwise.{Otherwise}
use Rattle.cad_parse_statement.specs.Code.Reading.{NamedValue}
use Rattle.cad_parse_statement.specs.declared.parts.NamedValue as code

abbrev pub stmts_in : Vec Stmt Global → List StmtTree
stmts_in v = map stmt_of v.items

abbrev pub cases_in : Vec Case Global → List CaseTree
cases_in v = map case_of v.items

abbrev pub default_in : Option (Vec Stmt Global) → Default
default_in d = default_of (option_map stmts_in d)

abbrev pub branches_in : Vec Stmt Global × Otherwise → List StmtTree × OtherwiseTree
branches_in x = (stmts_in x.0, otherwise_of x.1)

abbrev pub sections_in : Vec Case Global × Option (Vec Stmt Global) → List CaseTree × Default
sections_in x = (cases_in x.0, default_in x.1)

abbrev pub second_in : Option (Transfer × Expr) → Option SecondTree
second_in = option_map second_of

abbrev pub named_value_of : code.NamedValue → NamedValue
named_value_of b = record { name = b.name; annotation = option_map annotation_of b.annotation; transfer = b.transfer; value = expr_of b.value }
