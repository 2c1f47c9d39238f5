use Rattle.std.proofs.Common.{Bool, IsTrue}
use Rattle.std.specs.Prelude.{◌↔◌}
use Rattle.cad_fits.proofs.Each.{not_so, is_so}
use Rattle.cad_shapes.specs.Held.{shapes_of}
use Rattle.cad_values.specs.Fits as of
use Rattle.cad_values.specs.Values.{pure_value}
use Rattle.cad_world_checks.proofs.Soundness.{never, passed, both_so}
use Rattle.cad_world_checks.specs.Checks.{LastsOf}
use Rattle.cad_world_checks.proofs.contracts.is_contract_value.Goals as goal

pub returns-then-not-can_last : goal.returns-then-not-can_last
returns-then-not-can_last c =
    never {P = LastsOf (shapes_of c.args.shapes.now) c.args.id.now (pure_value c.args.value.now)} (λ l. not_so c.can_last.result c.can_last.ensures c.if-not-can_last.true l.0)

pub returns : goal.returns
returns c =
    let k = shapes_of c.args.shapes.now in
    let x = pure_value c.args.value.now in
    passed (λ (b : Bool). IsTrue b ↔ of.FitsContract k x c.args.id.now) (λ (b : Bool). IsTrue b ↔ LastsOf k c.args.id.now x) c.fits_contract.result
    (λ b tells. both_so b (is_so c.can_last.result c.can_last.ensures c.if-not-can_last.false) tells) c.fits_contract.ensures
