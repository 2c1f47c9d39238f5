-- Values that have a form outside.
use Rattle.std.proofs.Common.{◌≡◌, ap, ◌∙◌, true, false}
use Rattle.cad_runs.specs.Run.{told}
use Rattle.cad_values.specs.Forms.{is_told}
use Rattle.cad_values.specs.Values.{PureValue}
use Rattle.cad_world.specs.Rows.{Tree}
use Rattle.cad_world.specs.State.{State, ok, failed, give, require}
use Rattle.cad_world.specs.Trees.{value_of}

pub tells : (t : Tree) (v : PureValue) (s : State) → value_of t ≡ v → is_told v ≡ true → told t s ≡ ok v s
tells t v s e is = ap (λ x. require 134 (is_told x) (give x) s) e ∙ ap (λ b. require 134 b (give v) s) is

pub refuses : (t : Tree) (v : PureValue) (s : State) → value_of t ≡ v → is_told v ≡ false → told t s ≡ failed 134
refuses t v s e is = ap (λ x. require 134 (is_told x) (give x) s) e ∙ ap (λ b. require 134 b (give v) s) is
