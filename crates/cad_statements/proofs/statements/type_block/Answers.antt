use Rattle.std.proofs.Common.{◌+◌, map}
use Rattle.cad_grammar.specs.Trees.{stmts_of}
use Rattle.cad_grammar.specs.Views.{stmt_of}
use Rattle.cad_declarations.specs.Views.{block_of}
use Rattle.cad_environment.specs.Views.{local_of}
use Rattle.cad_typing.specs.Statements.{block_in, count_all, type_statements}
use Rattle.cad_statement_parts.specs.Views.{surroundings_of}
use Rattle.cad_statements.proofs.Numbers.{answer_alone, answer_number}
use Rattle.cad_statements.proofs.statements.type_block.Goals as goal

pub returns-clause-typing : goal.returns-clause-typing
returns-clause-typing c =
    let all = stmts_of (map stmt_of c.args.all.now) in
    answer_alone block_of c.block_from.result (c.args.at + count_all all) (block_in (map local_of c.args.locals.now) (surroundings_of c.args.w) (λ v. type_statements v c.args.at all)) c.block_from.ensures

pub returns-clause-next : goal.returns-clause-next
returns-clause-next c =
    let all = stmts_of (map stmt_of c.args.all.now) in
    answer_number block_of c.block_from.result (c.args.at + count_all all) (block_in (map local_of c.args.locals.now) (surroundings_of c.args.w) (λ v. type_statements v c.args.at all)) c.block_from.ensures
