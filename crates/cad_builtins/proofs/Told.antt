-- What a result's value is, told in other words.
use Rattle.std.specs.Prelude.{Result, Ok, Err, IfOk}
use Rattle.std.proofs.Common.{◌≡◌, ◌∙◌}
use Rattle.std.specs.declared.alloc.AllocError.{AllocError}

pub told : {X Y : Type 0} (view : X → Y) (r : Result X AllocError) (x y : Y) → IfOk r (λ v. view v ≡ x) → x ≡ y → IfOk r (λ v. view v ≡ y)
told view (Ok v) x y is same = is ∙ same
told view (Err e) x y is same = is
