-- Rows that are made of values, one after the other, and types that are looked through.
use Rattle.std.proofs.Common.{◌≡◌, ◌∙◌, List, [], ◌∷◌, ◌++◌, map, ap, sym, append_assoc, append-nil, Result, Bor, subst}
use Rattle.std.specs.Prelude.{IfOk}
use Rattle.cad_syntax.specs.declared.types.CadType.{CadType}
use Rattle.cad_syntax.specs.Types.{PureType, pure_type}

-- one more part, of the first value that is left
pub one_more : {W X Z : Type 0} (part : X → Z) (seen : W → X) (done more : List Z) (z : Z) (left rest : List W) (w : W) (whole : List Z)
    → more ≡ done ++ z ∷ [] → z ≡ part (seen w) → left ≡ w ∷ rest → done ++ map part (map seen left) ≡ whole → more ++ map part (map seen rest) ≡ whole
one_more part seen done more z left rest w whole added same split so_far =
    ap (λ zs. zs ++ map part (map seen rest)) added
    ∙ append_assoc done (z ∷ []) (map part (map seen rest))
    ∙ ap (λ y. done ++ y ∷ map part (map seen rest)) same
    ∙ ap (λ ws. done ++ map part (map seen ws)) (sym split)
    ∙ so_far

-- no value is left
pub no_more : {W X Z : Type 0} (part : X → Z) (seen : W → X) (done : List Z) (left : List W) (whole : List Z)
    → left ≡ [] → done ++ map part (map seen left) ≡ whole → done ≡ whole
no_more part seen done left whole none so_far =
    sym (append-nil done) ∙ ap (λ ws. done ++ map part (map seen ws)) (sym none) ∙ so_far

abbrev pub seen_type : Bor CadType → PureType
seen_type t = pure_type t.now

-- what is told of a result, of another name of it
pub retold : {X E Y : Type 0} (view : X → Y) (r : Result X E) (a b : Y) → a ≡ b → IfOk r (λ x. view x ≡ a) → IfOk r (λ x. view x ≡ b)
retold view r a b same told = subst (λ y. IfOk r (λ x. view x ≡ y)) same told
