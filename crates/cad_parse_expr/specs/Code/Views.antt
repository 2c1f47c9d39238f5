-- What the readers of expressions give, without where it lies in memory.
use Rattle.std.specs.Prelude.{List, map}
use Rattle.std.specs.declared.vec.Vec.{Vec}
use Rattle.std.specs.declared.alloc.Global.{Global}
use Rattle.cad_grammar.specs.declared.expression.Expr.{Expr}
use Rattle.cad_grammar.specs.declared.expression.Argument.{Argument}
use Rattle.cad_grammar.specs.declared.expression.Entry.{Entry}
use Rattle.cad_grammar.specs.Trees.{ExprTree, ArgumentTree, EntryTree}
use Rattle.cad_grammar.specs.Views.{annotation_of, expr_of, argument_of, entry_of}
use Rattle.cad_grammar.specs.ExpressionGrammar as grammar
use Rattle.cad_parse_type.specs.Code.Views.{annotations_in}
use Rattle.cad_parse_expr.specs.declared.tail.Tail.{Tail}
use Rattle.cad_parse_expr.specs.declared.tail.Tail.TheVariants as tail

abbrev pub exprs_in : Vec Expr Global → List ExprTree
exprs_in v = map expr_of v.items

abbrev pub arguments_in : Vec Argument Global → List ArgumentTree
arguments_in v = map argument_of v.items

abbrev pub entries_in : Vec Entry Global → List EntryTree
entries_in v = map entry_of v.items

abbrev pub tail_of : Tail → grammar.Tail
tail_of (tail.Operated operator b) = grammar.operated operator (expr_of b)
tail_of (tail.CastTo kind to) = grammar.cast_to kind (annotation_of to)
tail_of (tail.Member is_optional n) = grammar.member is_optional n
tail_of (tail.IndexedBy i) = grammar.indexed_by (expr_of i)
tail_of (tail.CalledWith types arguments) = grammar.called_with (annotations_in types) (arguments_in arguments)
tail_of tail.Forced = grammar.forced

-- the branches of a conditional
abbrev pub branches_of : Expr × Expr → ExprTree × ExprTree
branches_of x = (expr_of x.0, expr_of x.1)
