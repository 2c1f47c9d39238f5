use Rattle.std.proofs.Common.{subst}
use Rattle.cad_acceptance.specs.Acceptance.{checked_of}
use Rattle.cad_tables.specs.Views.{contracts_of}
use Rattle.cad_check.specs.Answers.{TextVerdict}
use Rattle.cad_check.proofs.text.first_stop.Goals as goal

pub returns-in-Ok : goal.returns-in-Ok
returns-in-Ok c = λ r h.
    c.no_stop_of_accepted.ensures (contracts_of c.args.deployed.now) c.args.place c.args.text.now (checked_of c.in-Ok.checked) r
    (subst (TextVerdict (contracts_of c.args.deployed.now) c.args.place c.args.text.now) c.in-Ok.is c.in_ok-checked.ensures) h

pub returns-in-Err : goal.returns-in-Err
returns-in-Err c = subst (TextVerdict (contracts_of c.args.deployed.now) c.args.place c.args.text.now) c.in-Err.is c.in_ok-checked.ensures
