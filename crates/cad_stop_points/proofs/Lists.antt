-- Names that are collected, one after the other.
use Rattle.std.specs.Prelude.{Bool, ◌||◌, ◌&&◌, List, [], ◌∷◌, ◌++◌, reverse}
use Rattle.std.specs.List.{list_all, list_any}
use Rattle.std.proofs.Common.{◌≡◌, ◌∙◌, refl, ap, sym, arith}
use Rattle.std.proofs.lemmas.List.{reverse-append}
use Rattle.std.proofs.lemmas.List.Folds.{list_all-append, list_any-append}
use Rattle.cad_syntax.specs.declared.text.Name.{Name}
use Rattle.cad_declarations.specs.Build.{with_names}
use Rattle.cad_declarations.specs.Names.{same_name, has_name}

pub all_append : {X : Type 0} (p : X → Bool) (a b : List X) → list_all p (a ++ b) ≡ (list_all p a && list_all p b)
all_append p a b = list_all-append p a b

pub reversed_one : {X : Type 0} (done : List X) (x : X) → reverse (done ++ x ∷ []) ≡ x ∷ reverse done
reversed_one done x = reverse-append done (x ∷ [])

-- the order of names doesn't matter
pub has_reversed : (names : List Name) (name : Name) → has_name (reverse names) name ≡ has_name names name
has_reversed [] name = refl
has_reversed (first ∷ names) name =
    ap (λ all. has_name all name) (reverse-append (first ∷ []) names)
    ∙ list_any-append (λ other. same_name other name) (reverse names) (first ∷ [])
    ∙ ap (λ b. b || has_name (first ∷ []) name) (has_reversed names name)
    ∙ grind arith

-- names behind names before
pub with_both : (a b before : List Name) → with_names (a ++ b) before ≡ with_names b (with_names a before)
with_both [] b before = refl
with_both (name ∷ a) b before = with_both a b (name ∷ before)
