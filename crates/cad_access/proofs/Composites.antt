-- What is in optionals is no composite.
use Rattle.std.proofs.Common.{◌≡◌, ℕ, zero, suc, Bool, false, Option, None, refl}
use Rattle.cad_syntax.specs.declared.type_id.TypeId.{TypeId}
use Rattle.cad_world.specs.Rows.{NodeShape, plain, link, array, dictionary, composite}
use Rattle.cad_world.specs.Receivers.{is_reference_in}
use Rattle.cad_evaluation.specs.Reading.{composite_in}

pub no_composite : (n : ℕ) (shape : NodeShape) → ¬ (n ≡ 0) → composite_in n shape ≡ None
no_composite zero shape some = absurd (some refl)
no_composite (suc n) (plain x) some = refl
no_composite (suc n) (link a l sees) some = refl
no_composite (suc n) (array t) some = refl
no_composite (suc n) (dictionary k t ks) some = refl
no_composite (suc n) (composite id i ns) some = refl

pub no_reference : (n : ℕ) (shape : NodeShape) → ¬ (n ≡ 0) → is_reference_in n shape ≡ false
no_reference zero shape some = absurd (some refl)
no_reference (suc n) shape some = refl
