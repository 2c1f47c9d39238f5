-- The last item of a list, and what stands before it; a contract that was the last for a while.
use Rattle.std.proofs.Common.{◌≡◌, refl, sym, ap, ◌∙◌}
use Rattle.std.specs.Prelude.{List, [], ◌∷◌, ◌++◌, map, IfOk, Result, Ok, Err}
use Rattle.std.specs.declared.alloc.Global.{Global}
use Rattle.std.specs.declared.vec.Vec.{Vec}
use Rattle.cad_installations.specs.Code.Kinds.{AreTold}
use Rattle.cad_outcomes.specs.declared.stop.Stop.{Stop}
use Rattle.cad_state.specs.Views.{contract_of, state_over}
use Rattle.cad_state.specs.declared.state.Contract.{Contract}
use Rattle.cad_state.specs.declared.state.RunState.{RunState}
use Rattle.cad_types.specs.declared.declared_types.DeclaredTypes.{DeclaredTypes}
use Rattle.cad_world.specs.State as s

abbrev before_last : {A : Type 0} → List A → List A
before_last [] = []
before_last (x ∷ []) = []
before_last (x ∷ y ∷ ys) = x ∷ before_last (y ∷ ys)

abbrev last_or : {A : Type 0} → A → List A → A
last_or d [] = d
last_or d (x ∷ []) = x
last_or d (x ∷ y ∷ ys) = last_or d (y ∷ ys)

stand_before : {A : Type 0} (xs : List A) (x : A) → before_last (xs ++ x ∷ []) ≡ xs
stand_before [] x = refl
stand_before (y ∷ []) x = refl
stand_before (y ∷ z ∷ zs) x = ap (λ l. y ∷ l) (stand_before (z ∷ zs) x)

is_last : {A : Type 0} (d : A) (xs : List A) (x : A) → last_or d (xs ++ x ∷ []) ≡ x
is_last d [] x = refl
is_last d (y ∷ []) x = refl
is_last d (y ∷ z ∷ zs) x = is_last d (z ∷ zs) x

-- two lists that are equal stand before one last item
pub same_before : {A : Type 0} (xs ys : List A) (x y : A) → xs ++ x ∷ [] ≡ ys ++ y ∷ [] → xs ≡ ys
same_before xs ys x y e = sym (stand_before xs x) ∙ ap before_last e ∙ stand_before ys y

pub same_last : {A : Type 0} (xs ys : List A) (x y : A) → xs ++ x ∷ [] ≡ ys ++ y ∷ [] → x ≡ y
same_last xs ys x y e = sym (is_last x xs x) ∙ ap (last_or x) e ∙ is_last x ys y

pub map_last : {A B : Type 0} (f : A → B) (xs : List A) (x : A) → map f (xs ++ x ∷ []) ≡ map f xs ++ f x ∷ []
map_last f [] x = refl
map_last f (y ∷ ys) x = ap (λ l. f y ∷ l) (map_last f ys x)

-- ---- a contract that was put behind the others and taken out again

pub told_same : (before after : RunState) (v : Vec Contract Global) (c : Contract) (r : Result (Contract × DeclaredTypes) Stop) → v.items ≡ before.contracts.items ++ c ∷ []
    → AreTold (map contract_of v.items) (record before { contracts = v }) after r → IfOk r (λ o. (accounts : List s.Account) → state_over accounts after ≡ state_over accounts before)
told_same before after v c (Ok o) put told = λ accounts.
    told.2 accounts ∙ ap (λ (l : List s.Contract). record (state_over accounts before) { contracts = l })
    (sym (same_before (map contract_of before.contracts.items) (map contract_of after.contracts.items) (contract_of c) (contract_of o.0) (sym (map_last contract_of before.contracts.items c) ∙ ap (map contract_of) (sym put) ∙ told.1)))
told_same before after v c (Err why) put told = tt
