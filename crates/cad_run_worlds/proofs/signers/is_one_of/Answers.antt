use Rattle.std.proofs.Common.{arith}
use Rattle.cad_run_worlds.proofs.Signing.{is_within, is_before}
use Rattle.cad_run_worlds.proofs.signers.is_one_of.Goals as goal

pub returns-then-address-ge1 : goal.returns-then-address-ge1
returns-then-address-ge1 c = λ w total. is_within w.accounts c.args.address.0 c.args.count c.if-address-ge1.true total

pub returns-else-address-ge1 : goal.returns-else-address-ge1
returns-else-address-ge1 c = λ w total. is_before w.accounts c.args.address.0 (omega arith)
