use Rattle.cad_grammar.specs.Views.{program_of}
use Rattle.cad_parse_type.specs.Code.Views.{seen, seen_with}
use Rattle.cad_parse.proofs.Programs.{read_whole, not_spelled, ends_there}
use Rattle.cad_parse.proofs.Answering.{no_tokens, stopped_parsing}
use Rattle.cad_parse.proofs.Whole.{declaration_laws}
use Rattle.cad_parse.proofs.program.tokens_program.Goals as goal

pub returns-in-None-clause-found : goal.returns-in-None-clause-found
unfolding seen
returns-in-None-clause-found c = read_whole declaration_laws c.args.tokens.now (seen_with program_of c.in-Ok.found) c.in-Ok.ensures (no_tokens c.in-Ok.found.1.tokens.now c.in-None.ensures.cases)

pub returns-in-Some-clause-stops : goal.returns-in-Some-clause-stops
unfolding seen
returns-in-Some-clause-stops c = λ phase n e.
    stopped_parsing c.args.tokens.now phase _ n
    (not_spelled declaration_laws c.args.tokens.now (seen_with program_of c.in-Ok.found) c.in-Some.token.now c.in-Some.field-0-1.now c.in-Ok.ensures c.in-Some.ensures.cases.0)
    (ends_there declaration_laws c.args.tokens.now (seen_with program_of c.in-Ok.found) c.in-Some.token.now c.in-Some.field-0-1.now c.in-Ok.ensures c.in-Some.ensures.cases.0) e
