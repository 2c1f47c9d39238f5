-- The types of the program's contract before and behind one of them.
use Rattle.std.specs.Prelude.{Bool, true, false, List, [], ◌∷◌, ◌++◌, map, filter}
use Rattle.std.proofs.Common.{◌≡◌, ◌∙◌, refl, ap, arith}
use Rattle.std.proofs.lemmas.List.{map-append}
use Rattle.cad_syntax.specs.declared.type_id.TypeId.{TypeId}
use Rattle.std.specs.Prelude.{Option}
use Rattle.cad_declarations.specs.Meets.{is_own, own_types}
use Rattle.cad_declarations.specs.Tables.{TypeEntry}

own_append : (contract : Option TypeId) (front back : List TypeEntry) → own_types contract (front ++ back) ≡ own_types contract front ++ own_types contract back
own_append contract [] back = refl
own_append contract (t ∷ front) back = grind (arith, own_append contract front back)

own_first : (contract : Option TypeId) (t : TypeEntry) (back : List TypeEntry) → is_own contract t.id ≡ true → own_types contract (t ∷ back) ≡ t ∷ own_types contract back
own_first contract t back own = grind (arith, own)

pub split_at : {X : Type 0} (f : X → TypeEntry) (contract : Option TypeId) (all front back : List X) (x : X)
    → all ≡ front ++ x ∷ back → is_own contract (f x).id ≡ true
    → own_types contract (map f all) ≡ own_types contract (map f front) ++ f x ∷ own_types contract (map f back)
split_at f contract all front back x parts own =
    ap (λ ts. own_types contract (map f ts)) parts
    ∙ ap (own_types contract) (map-append f front (x ∷ back))
    ∙ own_append contract (map f front) (map f (x ∷ back))
    ∙ ap (λ ts. own_types contract (map f front) ++ ts) (own_first contract (f x) (map f back) own)
