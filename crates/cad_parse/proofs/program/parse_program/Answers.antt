use Rattle.std.proofs.Common.{Err, ap, subst, sym}
use Rattle.cad_grammar.specs.Lexes.{Lexes, Stops}
use Rattle.cad_parse.proofs.Programs.{never_refused}
use Rattle.cad_parse.proofs.Answering.{parsed, accepted, stopped, stopped_lexing}
use Rattle.cad_parse.proofs.Whole.{declaration_laws}
use Rattle.cad_parse.proofs.program.parse_program.Goals as goal

pub returns-in-Ok-clause-found : goal.returns-in-Ok-clause-found
returns-in-Ok-clause-found c = parsed c.args.bytes.now c.as_slice.result.now (subst (Lexes c.args.bytes.now) (sym c.as_slice.ensures) c.in-Ok.ensures.found) c.tokens_program.result c.tokens_program.ensures.found

pub returns-in-Ok-clause-accepted : goal.returns-in-Ok-clause-accepted
returns-in-Ok-clause-accepted c =
    accepted c.args.bytes.now
    (never_refused declaration_laws c.one_lexing.ensures c.one_stop.ensures.one (λ text tokens n lexes stops. c.one_stop.ensures.none text n tokens stops lexes) c.args.bytes.now) c.tokens_program.result
    (parsed c.args.bytes.now c.as_slice.result.now (subst (Lexes c.args.bytes.now) (sym c.as_slice.ensures) c.in-Ok.ensures.found) c.tokens_program.result c.tokens_program.ensures.found)

pub returns-in-Ok-clause-stops : goal.returns-in-Ok-clause-stops
returns-in-Ok-clause-stops c = λ phase n e. stopped c.args.bytes.now c.as_slice.result.now (subst (Lexes c.args.bytes.now) (sym c.as_slice.ensures) c.in-Ok.ensures.found) phase n (c.tokens_program.ensures.stops phase n e)

pub returns-in-Err-At-clause-stops : goal.returns-in-Err-At-clause-stops
returns-in-Err-At-clause-stops c = λ phase n e.
    stopped_lexing c.args.bytes.now phase _ n (subst (Stops c.args.bytes.now) (sym c.in-Err-At.at-is) (c.in-Err-At.ensures.place c.in-Err-At.at (ap Err c.in-Err-At.field-0-is))) e
