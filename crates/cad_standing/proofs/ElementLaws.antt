-- Elements of what a receiver is.
use Rattle.std.proofs.Common.{◌≡◌, ℕ, Bool, true, ◌&&◌, ◌==◌, Option, Some, Result, ap, ◌∙◌}
use Rattle.cad_outcomes.specs.declared.stop.Stop.{Stop}
use Rattle.cad_outcomes.specs.Outcomes.{Gives}
use Rattle.cad_evaluation.specs.Standing.{Standing, here, inner_rights, may_replace, element_at, element_of}
use Rattle.cad_world.specs.Receivers.{Spot}
use Rattle.cad_world.specs.Rows.{Tree}
use Rattle.cad_world.specs.State.{State, Action, ◌>>=◌, give, guard, with_some}
use Rattle.cad_standing.proofs.Composing.{gives_same}

passed : {A : Type 0} (b : Bool) (n : ℕ) (o : Option ℕ) (f : ℕ → Action A) (l : ℕ) (s : State) → b ≡ true → n ≡ 0 → o ≡ Some l → guard (b && (n == 0)) (with_some o f) s ≡ f l s
passed b n o f l s e g h =
    ap (λ (x : Bool). guard (x && (n == 0)) (with_some o f) s) e
    ∙ ap (λ (x : ℕ). guard (true && (x == 0)) (with_some o f) s) g
    ∙ ap (λ (x : Option ℕ). guard (true && (0 == 0)) (with_some x f) s) h

pub of_spot : {D : Type 0} (view : D → Standing) (writes : Bool) (index : Tree) (spot : Spot) (l : ℕ) (r : Result D Stop)
    → may_replace writes spot.rights ≡ true → spot.tree.optionals ≡ 0 → spot.label ≡ Some l
    → Gives view (element_at index l spot.tree.shape >>= (λ x. give (here (inner_rights spot.rights) x 0))) r → Gives view (element_of writes index spot) r
of_spot view writes index spot l r may none at h =
    gives_same view (element_of writes index spot) (element_at index l spot.tree.shape >>= (λ x. give (here (inner_rights spot.rights) x 0))) r
    (λ s. passed (may_replace writes spot.rights) spot.tree.optionals spot.label (λ k. element_at index k spot.tree.shape >>= (λ x. give (here (inner_rights spot.rights) x 0))) l s may none at) h
