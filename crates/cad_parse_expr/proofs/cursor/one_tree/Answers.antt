use Rattle.cad_parse_expr.proofs.Whole as whole
use Rattle.cad_parse_expr.proofs.cursor.one_tree.Goals as goal

pub returns-clause-expressions : goal.returns-clause-expressions
returns-clause-expressions c = whole.one_expr

pub returns-clause-types : goal.returns-clause-types
returns-clause-types c = whole.one_type
