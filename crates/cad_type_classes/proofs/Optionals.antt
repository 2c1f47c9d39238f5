-- How many optionals are left.
use Rattle.std.proofs.Common.{◌≡◌, ℕ, zero, suc, ◌-◌, refl, arith}
use Rattle.cad_syntax.specs.Types.{PureType, basic, optional, array, dictionary, intersection, declared, reference, capability, capability_of}
use Rattle.cad_types.specs.Optionals.{depth, taken}

pub depth_taken : (n : ℕ) (u : PureType) → depth (taken n u) ≡ depth u - n
depth_taken zero u = omega arith
depth_taken (suc n) (optional u) =
    let e : depth (taken n u) ≡ depth u - n = depth_taken n u in omega arith
depth_taken (suc n) (basic t) = omega arith
depth_taken (suc n) (array t) = omega arith
depth_taken (suc n) (dictionary k t) = omega arith
depth_taken (suc n) (intersection ids) = omega arith
depth_taken (suc n) (declared id) = omega arith
depth_taken (suc n) (reference a t) = omega arith
depth_taken (suc n) capability = omega arith
depth_taken (suc n) (capability_of t) = omega arith
