use Rattle.cad_grammar.specs.Views.{stmt_of}
use Rattle.cad_typing.specs.Statements.{count, type_statement}
use Rattle.std.proofs.Common.{◌+◌}
use Rattle.cad_statement_parts.specs.Views.{surroundings_of}
use Rattle.cad_statement_trees.specs.Views.{statement_typing_of}
use Rattle.cad_statements.proofs.Numbers.{answer_alone, answer_number}
use Rattle.cad_statements.proofs.statements.type_statement.Goals as goal

pub returns-clause-typing : goal.returns-clause-typing
returns-clause-typing c = answer_alone statement_typing_of c.judge_statement.result (c.args.at + count (stmt_of c.args.statement.now)) (type_statement (surroundings_of c.args.w) c.args.at (stmt_of c.args.statement.now)) c.judge_statement.ensures

pub returns-clause-next : goal.returns-clause-next
returns-clause-next c = answer_number statement_typing_of c.judge_statement.result (c.args.at + count (stmt_of c.args.statement.now)) (type_statement (surroundings_of c.args.w) c.args.at (stmt_of c.args.statement.now)) c.judge_statement.ensures
