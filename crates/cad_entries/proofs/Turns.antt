-- What stands behind other items.
use Rattle.std.specs.Prelude.{List, [], ◌∷◌, ◌++◌}
use Rattle.std.proofs.Common.{◌≡◌, ◌∙◌, ap, append_assoc}

-- more stands behind one that stands behind others
pub behind_one : {X : Type 0} (after middle done more : List X) (x : X) → after ≡ middle ++ more → middle ≡ done ++ x ∷ [] → after ≡ done ++ x ∷ more
behind_one after middle done more x is front = is ∙ ap (λ all. all ++ more) front ∙ append_assoc done (x ∷ []) more
