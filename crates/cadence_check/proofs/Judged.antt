-- Contracts that are judged, one after another.
use Rattle.std.specs.Prelude.{Ok, Err, Some, List, [], ◌∷◌, map, drop, length}
use Rattle.std.proofs.Common.{◌≡◌, sym, ap, subst, ℕ, ◌+◌, ◌<◌, ◌≤◌, get_or, add-one}
use Rattle.std.proofs.lemmas.List.{drop_more, drop_all}
use Rattle.cad_declarations.specs.Imports.{ContractEntry}
use Rattle.cad_acceptance.specs.Acceptance.{CheckedProgram}
use Rattle.cadence_check.specs.Requests.{Contract, Subject}
use Rattle.cadence_check.specs.Verdicts.{Comes, Judges, JudgesAll, Refusal, Verdict, beside, goes_on, last, refused, refuses}

-- what is judged behind the contracts that were accepted is judged of them all
abbrev pub Onward : List ContractEntry → ℕ → List Contract → List Contract → Type 0
Onward deployed number rest all = (s : Subject) (v : Verdict) → JudgesAll deployed number rest s v → JudgesAll [] 0 all s v

pub at_first : (deployed : List ContractEntry) (all : List Contract) → deployed ≡ [] → Onward deployed 0 all all
at_first deployed all none s v h = subst (λ (d : List ContractEntry). JudgesAll d 0 all s v) none h

left : {A : Type 0} (view : A → Contract) (xs : List A) (i : ℕ) (x : A) → i < length xs → map view (drop i xs) ≡ view (get_or xs i x) ∷ map view (drop (i + 1) xs)
left view xs i x h = ap (map view) (drop_more xs i x h)

-- one more that is accepted
pub one_more : {A : Type 0} (view : A → Contract) (xs : List A) (i : ℕ) (x : A) (deployed next : List ContractEntry) (all : List Contract) (checked : CheckedProgram)
    → i < length xs → Comes deployed (view (get_or xs i x)) (Ok checked) → next ≡ beside deployed (view (get_or xs i x)) checked
    → Onward deployed i (map view (drop i xs)) all → Onward next (i + 1) (map view (drop (i + 1) xs)) all
one_more view xs i x deployed next all checked h comes stands onward s v behind =
    onward s v
    (subst (λ (rest : List Contract). JudgesAll deployed i rest s v) (sym (left view xs i x h))
    (goes_on comes
    (subst (λ (n : ℕ). JudgesAll (beside deployed (view (get_or xs i x)) checked) n (map view (drop (i + 1) xs)) s v) (add-one i)
    (subst (λ (d : List ContractEntry). JudgesAll d (i + 1) (map view (drop (i + 1) xs)) s v) stands behind))))

-- the first that is refused
pub refused_here : {A : Type 0} (view : A → Contract) (xs : List A) (i : ℕ) (x : A) (deployed : List ContractEntry) (all : List Contract) (f : Refusal)
    → i < length xs → Comes deployed (view (get_or xs i x)) (Err f)
    → Onward deployed i (map view (drop i xs)) all → (s : Subject) → JudgesAll [] 0 all s (refused (Some i) f)
refused_here view xs i x deployed all f h comes onward s =
    onward s (refused (Some i) f) (subst (λ (rest : List Contract). JudgesAll deployed i rest s (refused (Some i) f)) (sym (left view xs i x h)) (refuses comes))

-- all are accepted
pub at_end : {A : Type 0} (view : A → Contract) (xs : List A) (i : ℕ) (deployed : List ContractEntry) (all : List Contract)
    → length xs ≤ i → Onward deployed i (map view (drop i xs)) all → (s : Subject) (v : Verdict) → Judges deployed s v → JudgesAll [] 0 all s v
at_end view xs i deployed all h onward s v judged =
    onward s v (subst (λ (rest : List Contract). JudgesAll deployed i rest s v) (ap (map view) (sym (drop_all i xs h))) (last judged))
