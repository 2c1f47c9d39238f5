use Rattle.cad_parse.proofs.Programs.{one_refused}
use Rattle.cad_parse.proofs.Whole.{declaration_laws}
use Rattle.cad_parse.proofs.program.one_refusal.Goals as goal

pub returns : goal.returns
returns c = one_refused declaration_laws c.one_lexing.ensures c.one_stop.ensures.one (λ text tokens n lexes stops. c.one_stop.ensures.none text n tokens stops lexes)
