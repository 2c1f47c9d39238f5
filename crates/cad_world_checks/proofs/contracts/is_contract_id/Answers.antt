use Rattle.std.proofs.Common.{arith}
use Rattle.cad_fits.proofs.Each.{not_so, is_so}
use Rattle.cad_world_checks.proofs.Soundness.{never}
use Rattle.cad_world_checks.proofs.WholeWorld.{id_so}
use Rattle.cad_world_checks.specs.Checks.{IsContractId}
use Rattle.cad_world_checks.proofs.contracts.is_contract_id.Goals as goal

pub returns-then-address-lt1 : goal.returns-then-address-lt1
returns-then-address-lt1 c = never {P = IsContractId c.args.count c.args.id.now} (λ i. let one = i.0 in omega (arith, one))

pub returns-then-not-is_at_most : goal.returns-then-not-is_at_most
returns-then-not-is_at_most c = never {P = IsContractId c.args.count c.args.id.now} (λ i. not_so c.is_at_most.result c.is_at_most.ensures c.if-not-is_at_most.true i.1)

pub returns : goal.returns
returns c =
    id_so c.is_one.result c.args.count c.args.id.now c.as_slice-names.result.now (omega arith) (is_so c.is_at_most.result c.is_at_most.ensures c.if-not-is_at_most.false) c.as_slice-names.ensures c.is_one.ensures
