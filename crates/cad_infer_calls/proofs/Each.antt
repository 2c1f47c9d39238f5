-- Results that are collected, one after the other.
use Rattle.std.specs.Prelude.{Option, Some, None, option_map, List, [], ◌∷◌, ◌++◌}
use Rattle.std.proofs.Common.{◌≡◌, refl, ap, sym, append_assoc}
use Rattle.cad_declarations.specs.Scopes.{option_cons}

-- what was collected stands in front of what comes
abbrev pub behind : {Y : Type 0} → List Y → Option (List Y) → Option (List Y)
behind done more = option_map (λ ys. done ++ ys) more

pub goes_on : {Y : Type 0} (done : List Y) (y : Y) (more : Option (List Y)) → behind done (option_cons (Some y) more) ≡ behind (done ++ y ∷ []) more
goes_on done y None = refl
goes_on done y (Some ys) = ap Some (sym (append_assoc done (y ∷ []) ys))
