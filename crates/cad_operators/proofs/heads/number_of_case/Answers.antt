use Rattle.std.proofs.Common.{arith}
use Rattle.cad_operators.proofs.HeadLaws.{case_of_one}
use Rattle.cad_operators.proofs.heads.number_of_case.Goals as goal

pub returns-in-len1-parts : goal.returns-in-len1-parts
returns-in-len1-parts c =
    case_of_one c.args.names.now c.args.parts.now c.place-item.result c.number_there.result (omega arith) (omega arith) c.place-item.is c.number_there.ensures
