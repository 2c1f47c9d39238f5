-- Results that are collected, one after the other.
use Rattle.std.specs.Prelude.{Option, Some, None, option_map, List, [], ◌∷◌, ◌++◌}
use Rattle.std.proofs.Common.{◌≡◌, ◌∙◌, refl, ap, sym, append_assoc}
use Rattle.cad_declarations.specs.Scopes.{option_cons, each_of}

-- what was collected stands in front of what comes
abbrev pub behind : {Y : Type 0} → List Y → Option (List Y) → Option (List Y)
behind done more = option_map (λ ys. done ++ ys) more

pub goes_on : {Y : Type 0} (done : List Y) (y : Y) (more : Option (List Y)) → behind done (option_cons (Some y) more) ≡ behind (done ++ y ∷ []) more
goes_on done y None = refl
goes_on done y (Some ys) = ap Some (sym (append_assoc done (y ∷ []) ys))

-- one more of them
pub one_more : {X Y : Type 0} (f : X → Option Y) (xs rest : List X) (x : X) (y : Y) (done : List Y) (whole : Option (List Y))
    → xs ≡ x ∷ rest → f x ≡ Some y → behind done (each_of f xs) ≡ whole → behind (done ++ y ∷ []) (each_of f rest) ≡ whole
one_more f xs rest x y done whole split some so_far =
    sym (goes_on done y (each_of f rest))
    ∙ ap (λ o. behind done (option_cons o (each_of f rest))) (sym some)
    ∙ ap (λ all. behind done (each_of f all)) (sym split)
    ∙ so_far
