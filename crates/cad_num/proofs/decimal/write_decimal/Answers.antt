-- The sign and the magnitude.
use Rattle.std.proofs.Common.{ap, ◌∙◌, rules}
use Rattle.cad_num.specs.Decimal.{written, read_of}
use Rattle.cad_num.proofs.RoundTrip.{read_back}
use Rattle.cad_num.proofs.decimal.write_decimal.Goals as goal
use Rattle.cad_num.proofs.decimal.write_decimal.Goals.{then-a, else-a}

pub returns-clause-text : goal.returns-clause-text
unfolding written
returns-clause-text c = search rules

pub returns-clause-reads_back : goal.returns-clause-reads_back
returns-clause-reads_back c = ap (read_of c.args.a.kind) (returns-clause-text c) ∙ read_back c.args.a
