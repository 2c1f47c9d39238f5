use Rattle.std.proofs.Common.{Bool, IsTrue, arith}
use Rattle.std.specs.Prelude.{◌↔◌}
use Rattle.cad_rows.specs.Views.{pure_row, pure_place}
use Rattle.cad_shapes.specs.Held.{shapes_of}
use Rattle.cad_world.specs.Sound.{IsValueOf}
use Rattle.cad_world_checks.proofs.Soundness.{never, passed}
use Rattle.cad_world_checks.proofs.WholeWorld.{one_place, value_held}
use Rattle.cad_world_checks.specs.Checks.{HoldsContract}
use Rattle.cad_world_checks.proofs.contracts.is_value_of.Goals as goal

pub returns-in-len1 : goal.returns-in-len1
returns-in-len1 c =
    let k = shapes_of c.args.shapes.now in
    let id = c.args.id.now in
    let places = c.args.places.now in
    passed (λ (b : Bool). IsTrue b ↔ HoldsContract k id (pure_place c.place-item.result)) (λ (b : Bool). IsTrue b ↔ IsValueOf k id (pure_row places)) c.is_contract_place.result
    (λ b tells. value_held b k id places c.place-item.result (omega arith) c.place-item.is tells) c.is_contract_place.ensures

pub returns-in_default : goal.returns-in_default
returns-in_default c =
    never {P = IsValueOf (shapes_of c.args.shapes.now) c.args.id.now (pure_row c.args.places.now)} (λ v. let one = one_place (shapes_of c.args.shapes.now) c.args.id.now c.args.places.now v in omega (arith, one))

pub returns-in_default-2 : goal.returns-in_default-2
returns-in_default-2 c =
    never {P = IsValueOf (shapes_of c.args.shapes.now) c.args.id.now (pure_row c.args.places.now)} (λ v. let one = one_place (shapes_of c.args.shapes.now) c.args.id.now c.args.places.now v in omega (arith, one, c.in_default.len_at_least))
