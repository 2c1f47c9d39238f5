-- One account more is known of a World.
use Rattle.std.proofs.Common.{◌≡◌, ℕ, zero, suc, ◌+◌, ◌<◌, ◌==◌, Bool, true, false, if◌then◌else◌, List, [], ◌∷◌, ◌++◌, map, length, Option, Some, None, refl, sym, ap, ◌∙◌, arith}
use Rattle.std.proofs.lemmas.Bool.{eq-eqb, ne_eqb}
use Rattle.cad_state.specs.Parts.{accounts_from, among, known_in, known_or, with_known}
use Rattle.cad_state.specs.Views.{account_of, contract_of}
use Rattle.cad_state.specs.declared.state.Known.{Known}
use Rattle.cad_world.specs.Begin.{new_account}
use Rattle.cad_world.specs.State.{Account, World}
use Rattle.cad_worlds.proofs.PartLaws.{length_from}
use Rattle.cad_serve_parts.specs.Passed.{IsPartOf}
use Rattle.cad_worlds.specs.Parts.{world_over}
use Rattle.cad_worlds.specs.declared.part.WorldPart.{WorldPart}
use Rattle.cad_answers.specs.Answer.{one_more}
use Rattle.cad_serve_parts.specs.Code.Parts.{HasOneMore}

-- how many accounts there are
pub counted : (w : World) (x : WorldPart) → world_over w.accounts x ≡ w → length w.accounts ≡ x.count
counted w x is = sym (ap (λ (v : World). length v.accounts) is) ∙ length_from w.accounts x.known.items 0 x.count

-- ---- the last that is known

not_some : (a : Account) → Some a ≡ None → ⊥
not_some a e = cc

step : (b : Bool) (a : Account) (o p r : Option Account) → (if b then Some a else o) ≡ None → (o ≡ None → p ≡ r) → (if b then Some a else p) ≡ r
step true a o p r none next = absurd (not_some a none)
step false a o p r none next = next none

at_last : (ks : List Known) (k : Known) (j : ℕ) → known_in ks j ≡ None → known_in (ks ++ k ∷ []) j ≡ (if k.index == j then Some (account_of k.account) else None)
at_last [] k j none = refl
at_last (x ∷ ks) k j none = step (x.index == j) (account_of x.account) (known_in ks j) (known_in (ks ++ k ∷ []) j) (if k.index == j then Some (account_of k.account) else None) none (at_last ks k j)

here : (ks : List Known) (k : Known) → known_in ks k.index ≡ None → known_in (ks ++ k ∷ []) k.index ≡ Some (account_of k.account)
here ks k none = at_last ks k k.index none ∙ ap (λ (b : Bool). if b then Some (account_of k.account) else None) (eq-eqb k.index k.index refl)

elsewhere : (ks : List Known) (k : Known) (j : ℕ) → known_in ks j ≡ None → (k.index ≡ j → ⊥) → known_in (ks ++ k ∷ []) j ≡ known_in ks j
elsewhere ks k j none differs = at_last ks k j none ∙ ap (λ (b : Bool). if b then Some (account_of k.account) else None) (ne_eqb k.index j differs) ∙ sym none

-- ---- accounts

below : (base : List Account) (ks more : List Known) (i n : ℕ) → ((j : ℕ) → j < i + n → known_in more j ≡ known_in ks j) → accounts_from base more i n ≡ accounts_from base ks i n
below base ks more i zero same = refl
below base ks more i (suc n) same =
    let first = same i (omega arith) in
    let rest = below base ks more (suc i) n (λ j less. same j (omega (arith, less))) in
    λ t. known_or (among base i) (first t) ∷ rest t

abbrev account_there : List Account → List Known → ℕ → Account
account_there base ks i = known_or (among base i) (known_in ks i)

last : (base : List Account) (ks : List Known) (i n : ℕ) → accounts_from base ks i (suc n) ≡ accounts_from base ks i n ++ account_there base ks (i + n) ∷ []
last base ks i zero = let at : i ≡ i + 0 = omega arith in ap (λ (m : ℕ). account_there base ks m ∷ []) at
last base ks i (suc n) =
    let at : suc i + n ≡ i + suc n = omega arith in
    ap (λ (l : List Account). account_there base ks i ∷ l) (last base ks (suc i) n ∙ ap (λ (m : ℕ). accounts_from base ks (suc i) n ++ account_there base ks m ∷ []) at)

module _ (w : World) (old new : WorldPart) (part : IsPartOf [] w old) (more : HasOneMore old new) where
  accounts_are : with_known w.accounts new.count new.known.items ≡ w.accounts ++ new_account ∷ []
  accounts_are =
      let base = w.accounts in
      let ks = old.known.items in
      let k = more.one in
      let all = ks ++ k ∷ [] in
      let same : (j : ℕ) → j < 0 + old.count → known_in all j ≡ known_in ks j = λ j less. elsewhere ks k j (part.known j) (λ e. let index = more.index in omega (arith, e, index, less)) in
      let found : known_in all old.count ≡ Some new_account =
      ap (λ (j : ℕ). known_in all j) (sym more.index) ∙ here ks k (part.known k.index) ∙ ap (λ (a : Account). Some a) more.account in
      let at : 0 + old.count ≡ old.count = omega arith in
      (λ i. accounts_from base (more.known i) 0 (more.count i))
      ∙ last base all 0 old.count
      ∙ (λ i. below base ks all 0 old.count same i ++ account_there base all (at i) ∷ [])
      ∙ (λ i. (part.is i).accounts ++ known_or (among base old.count) (found i) ∷ [])

  pub one_more_is : world_over w.accounts new ≡ one_more w
  one_more_is =
      let contracts : map contract_of new.contracts.items ≡ w.contracts = (λ i. map contract_of (more.contracts i).items) ∙ ap (λ (v : World). v.contracts) part.is in
      let identity : new.next_identity ≡ w.next_identity = more.identity ∙ ap (λ (v : World). v.next_identity) part.is in
      λ i. record { accounts = accounts_are i; contracts = contracts i; next_identity = identity i }
