use Rattle.std.proofs.Common.{arith, map}
use Rattle.cad_tables.specs.Views.{contracts_of}
use Rattle.cadence_check.specs.Views.{contract_of, refusal_of}
use Rattle.cadence_check.proofs.Judged.{at_end, one_more, refused_here}
use Rattle.cadence_check.proofs.judge.all_deployed.Goals as goal

pub returns-in-Err : goal.returns-in-Err
returns-in-Err c =
    let comes = rw c.in-Err.is at c.in_ok-next.ensures in
    refused_here contract_of c.args.contracts.now c.loop-number.number _ (contracts_of c.loop-number.deployed) (map contract_of c.args.contracts.now) (refusal_of c.in-Err.refusal)
    c.loop-number-test.true comes c.loop-number.invariant

pub loop-number-preserved : goal.loop-number-preserved
loop-number-preserved c =
    let next = rw c.in-Ok.is at c.in_ok-next.ensures in
    one_more contract_of c.args.contracts.now c.loop-number.number _ (contracts_of c.loop-number.deployed) (contracts_of c.in-Ok.next) (map contract_of c.args.contracts.now) next.0
    c.loop-number-test.true next.1.0 next.1.1 c.loop-number.invariant

pub returns : goal.returns
returns c =
    at_end contract_of c.args.contracts.now c.loop-number.number (contracts_of c.loop-number.deployed) (map contract_of c.args.contracts.now) (omega arith) c.loop-number.invariant
