-- Known accounts that come to be as they are kept, among others that are.
use Rattle.std.proofs.Common.{◌≡◌, ℕ, zero, suc, ◌==◌, Bool, true, false, if◌then◌else◌, List, [], ◌∷◌, map, Option, Some, None, option_map, refl, sym, ap, ◌∙◌}
use Rattle.cad_state.specs.Accounts.{account_of}
use Rattle.cad_state.specs.Parts.{known_in, known_or, among, accounts_from, with_known}
use Rattle.cad_state.specs.declared.state.Known.{Known}
use Rattle.cad_world.specs.Begin.{kept_account}
use Rattle.cad_world.specs.State.{Account}

-- a known account at its index, and as it is kept there
abbrev pub placed : Known → ℕ × Account
placed k = (k.index, account_of k.account)

abbrev pub kept_placed : ℕ × Account → ℕ × Account
kept_placed p = (p.0, kept_account p.1)

same_head : {A : Type 0} (x y : A) (xs ys : List A) → x ∷ xs ≡ y ∷ ys → x ≡ y
same_head x y xs ys e = cc

same_tail : {A : Type 0} (x y : A) (xs ys : List A) → x ∷ xs ≡ y ∷ ys → xs ≡ ys
same_tail x y xs ys e = cc

nil_cons : {A : Type 0} (x : A) (xs : List A) → [] ≡ x ∷ xs → ⊥
nil_cons x xs e = cc

if_kept : (b : Bool) (a : Account) (o : Option Account) → (if b then Some (kept_account a) else option_map kept_account o) ≡ option_map kept_account (if b then Some a else o)
if_kept true a o = refl
if_kept false a o = refl

known_kept : (now was : List Known) → map placed now ≡ map kept_placed (map placed was) → (i : ℕ) → known_in now i ≡ option_map kept_account (known_in was i)
known_kept [] [] e i = refl
known_kept [] (o ∷ was) e i = absurd (nil_cons (kept_placed (placed o)) (map kept_placed (map placed was)) e)
known_kept (n ∷ now) [] e i = absurd (nil_cons (placed n) (map placed now) (sym e))
known_kept (n ∷ now) (o ∷ was) e i =
    let head : placed n ≡ kept_placed (placed o) = same_head (placed n) (kept_placed (placed o)) (map placed now) (map kept_placed (map placed was)) e in
    let rest = known_kept now was (same_tail (placed n) (kept_placed (placed o)) (map placed now) (map kept_placed (map placed was)) e) i in
    (λ m. if (head m).0 == i then Some (head m).1 else rest m) ∙ if_kept (o.index == i) (account_of o.account) (known_in was i)

among_kept : (base : List Account) (i : ℕ) → map kept_account base ≡ base → among base i ≡ kept_account (among base i)
among_kept [] i e = refl
among_kept (a ∷ base) zero e = sym (same_head (kept_account a) a (map kept_account base) base e)
among_kept (a ∷ base) (suc i) e = among_kept base i (same_tail (kept_account a) a (map kept_account base) base e)

or_kept : (a : Account) (o : Option Account) → a ≡ kept_account a → known_or a (option_map kept_account o) ≡ kept_account (known_or a o)
or_kept a None e = e
or_kept a (Some k) e = refl

from_kept : (base : List Account) (now was : List Known) → map kept_account base ≡ base → ((i : ℕ) → known_in now i ≡ option_map kept_account (known_in was i)) → (i n : ℕ)
    → accounts_from base now i n ≡ map kept_account (accounts_from base was i n)
from_kept base now was kept same i zero = refl
from_kept base now was kept same i (suc n) =
    let head : known_or (among base i) (known_in now i) ≡ kept_account (known_or (among base i) (known_in was i)) =
    ap (known_or (among base i)) (same i) ∙ or_kept (among base i) (known_in was i) (among_kept base i kept) in
    let tail = from_kept base now was kept same (suc i) n in
    λ m. head m ∷ tail m

pub with_kept : (base : List Account) (count : ℕ) (now was : List Known) → map placed now ≡ map kept_placed (map placed was) → map kept_account base ≡ base
    → with_known base count now ≡ map kept_account (with_known base count was)
with_kept base count now was e kept = from_kept base now was kept (known_kept now was e) 0 count
