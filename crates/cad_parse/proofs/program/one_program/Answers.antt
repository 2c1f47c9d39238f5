use Rattle.cad_parse.proofs.Programs.{one_spelled, one_parsed}
use Rattle.cad_parse.proofs.Whole.{declaration_laws}
use Rattle.cad_parse.proofs.program.one_program.Goals as goal

pub returns-clause-spelled : goal.returns-clause-spelled
returns-clause-spelled c = one_spelled declaration_laws

pub returns-clause-parsed : goal.returns-clause-parsed
returns-clause-parsed c = one_parsed declaration_laws c.one_lexing.ensures
