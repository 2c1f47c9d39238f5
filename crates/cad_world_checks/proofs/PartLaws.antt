-- A World with what is known of it after a run: it is sound, and its values have bytes.
use Rattle.std.proofs.Common.{◌≡◌, ◌<◌, ◌≤◌, ◌+◌, ◌⊎◌, ◌↔◌, ◌||◌, IsTrue, ℕ, zero, suc, Bool, true, false, List, [], ◌∷◌, All, map, length, flat_map, nat_le, inl, inr, refl, sym, ap, subst, ◌∙◌, arith}
use Rattle.std.specs.List.{AllByRecursion, list_all}
use Rattle.std.proofs.lemmas.Bool.{false≢true, and_parts, leb-true, or_cases}
use Rattle.std.proofs.lemmas.List.Elements.{All-from_recursion, recursion_from_All}
use Rattle.cad_state.specs.Views.{contract_of}
use Rattle.cad_state.specs.declared.state.Contract.{Contract}
use Rattle.cad_state.specs.declared.state.Known.{Known}
use Rattle.cad_world.specs.Begin.{new_account}
use Rattle.cad_world.specs.Live.{live}
use Rattle.cad_world.specs.Rows.{identities}
use Rattle.cad_world.specs.Shapes.{shapes}
use Rattle.cad_world.specs.Sound.{SoundAccount, most_accounts, most_next}
use Rattle.cad_world.specs.State as s
use Rattle.cad_worlds.proofs.PartLaws.{count_is, length_from}
use Rattle.cad_worlds.specs.Parts.{world_over}
use Rattle.cad_worlds.specs.Standing.{AccountHasBytes, ContractHasBytes, IsSoundButCode}
use Rattle.cad_worlds.specs.declared.part.WorldPart.{WorldPart}
use Rattle.cad_values.specs.Shapes.{Shapes}
use Rattle.cad_world_checks.proofs.KnownAccounts.{accounts_count, each_account, elsewhere, elsewhere_below, elsewhere_none, sum_from, sum_within, sums_below}
use Rattle.cad_world_checks.proofs.Numbers.{held_are}
use Rattle.cad_world_checks.proofs.Occurrences.{all_where, distinct, found_there, joined, occurrences, once, where_all}
use Rattle.cad_world_checks.proofs.WholeWorld.{judged}
use Rattle.cad_world_checks.specs.Checks.{IsFirst, SoundContracts}
use Rattle.cad_world_checks.specs.Identities.{AreOwn, contract_identities, has_number}
use Rattle.cad_world_checks.specs.Code.Summaries.{Follows, account_in, are_among_or_new}
use Rattle.cad_world_checks.specs.Parts.{StaysSound, StaysWithBytes, index_of, known_identities, part_identities, summary}
use Rattle.cad_world_checks.specs.declared.part_summary.PartSummary.{PartSummary}

-- what a test says where it holds, where it doesn't
pub not_told : {P : Type 0} → IsTrue false → P
not_told h = absurd (false≢true h)

-- the same of other lists
pub own_of : (b : Bool) (next : ℕ) (xs ys : List ℕ) → xs ≡ ys → (IsTrue b ↔ AreOwn next xs) → b ≡ true → AreOwn next ys
own_of b next xs ys same tells holds = subst (AreOwn next) same (tells.0 holds)

pub among_of : (b : Bool) (next : ℕ) (ks ls xs ys : List ℕ) → ks ≡ ls → xs ≡ ys → b ≡ are_among_or_new ks next xs → b ≡ true → are_among_or_new ls next ys ≡ true
among_of b next ks ls xs ys known same tells holds = (λ i. are_among_or_new (sym known i) next (sym same i)) ∙ sym tells ∙ holds

-- ---- how often an identity lives

live_count : (n : ℕ) (base : List s.Account) (x : WorldPart) → AreOwn x.count (map index_of x.known.items)
    → occurrences n (live (world_over base x)) ≡ sum_from (elsewhere n base (map index_of x.known.items)) 0 x.count + occurrences n (part_identities x)
live_count n base x own =
    let accounts = flat_map (λ (a : s.Account). identities a.stored) (world_over base x).accounts in
    let contracts = flat_map (λ (c : s.Contract). identities c.value) (map contract_of x.contracts.items) in
    let all = joined n accounts contracts in
    let one = accounts_count n base x.known.items x.count own in
    let held = ap (occurrences n) (held_are x.contracts.items) in
    let known = joined n (flat_map known_identities x.known.items) (flat_map contract_identities x.contracts.items) in
    omega (arith, all, one, held, known)

-- ---- numbers that were there, and new ones

each_test : (test : ℕ → Bool) (xs : List ℕ) → list_all test xs ≡ true → AllByRecursion (λ x. test x ≡ true) xs
each_test test [] e = tt
each_test test (x ∷ xs) e = let p = and_parts (test x) (list_all test xs) e in (p.0, each_test test xs p.1)

seen_or_new : (known : List ℕ) (next : ℕ) (numbers : List ℕ) → are_among_or_new known next numbers ≡ true → (n : ℕ) → 1 ≤ occurrences n numbers → (has_number known n ≡ true) ⊎ (next ≤ n)
seen_or_new known next numbers e n there =
    elim (or_cases (has_number known n) (nat_le next n) (where_all (λ k. (has_number known k || nat_le next k) ≡ true) numbers (each_test (λ k. has_number known k || nat_le next k) numbers e) n there)) [
      | inl seen ↦ inl seen
      | inr new ↦ inr (leb-true next n new)
    ]

-- a place that was known is known still
still : (is js : List ℕ) (count : ℕ) → AreOwn count is → are_among_or_new js count is ≡ true → (j : ℕ) → has_number is j ≡ true → has_number js j ≡ true
still is js count own e j found =
    let there = found_there j is found in
    elim (seen_or_new js count is e j there) [
      | inl seen ↦ seen
      | inr new ↦ let low = where_all (λ i. i < count) is (recursion_from_All (λ i. i < count) is own.1) j there in absurd (omega (arith, low, new))
    ]

-- ---- e: in accounts that weren't known before, f: that aren't known after; b, a: in what was known, and is

one_owner : (e f b a n next : ℕ) → f ≤ e → e + b ≤ 1 → (1 ≤ e + b → n < next) → a ≤ 1 → (1 ≤ a → (1 ≤ b) ⊎ (next ≤ n)) → f + a ≤ 1
one_owner e f b zero n next less most given own either = omega (arith, less, most)
one_owner zero f b (suc a) n next less most given own either = omega (arith, less, own)
one_owner (suc e) f b (suc a) n next less most given own either =
    elim (either (omega arith)) [
      | inl before ↦ absurd (omega (arith, before, most))
      | inr new ↦ let low = given (omega arith) in absurd (omega (arith, low, new))
    ]

all_given : (e f b a n next later : ℕ) → f ≤ e → (1 ≤ e + b → n < next) → next ≤ later → (1 ≤ a → n < later) → 1 ≤ f + a → n < later
all_given e f b zero n next later less given rises known there = let low = given (omega (arith, less, there)) in omega (arith, low, rises)
all_given e f b (suc a) n next later less given rises known there = known (omega arith)

before_or_new : (n next : ℕ) (known : List ℕ) → (has_number known n ≡ true) ⊎ (next ≤ n) → (1 ≤ occurrences n known) ⊎ (next ≤ n)
before_or_new n next known (inl seen) = inl (found_there n known seen)
before_or_new n next known (inr new) = inr new

-- ---- no two resources have one identity, and all were given

-- of an identity: what is said of it in the World before, and how often it lives before and after
pub record Counts (w : s.World) (old x : WorldPart) (n : ℕ) : Type 0 where
  pub e : ℕ
  pub f : ℕ
  pub less : f ≤ e
  pub before : occurrences n (live w) ≡ e + occurrences n (part_identities old)
  pub after : occurrences n (live (world_over w.accounts x)) ≡ f + occurrences n (part_identities x)

counts : (w : s.World) (old x : WorldPart) → world_over w.accounts old ≡ w → Follows (summary old) (summary x) → (n : ℕ) → Counts w old x n
counts w old x is go n =
    let base = w.accounts in
    let was = map index_of old.known.items in
    let now = map index_of x.known.items in
    let length_is : old.count ≡ length base = count_is w old is in
    let fewer = sums_below (elsewhere n base now) (elsewhere n base was) (elsewhere_below n base was now (still was now old.count go.indexes_before go.still_known)) 0 x.count in
    let within = sum_within (elsewhere n base was) (length base) (elsewhere_none n base was) 0 x.count old.count (omega (arith, length_is)) in
    record {
      e = sum_from (elsewhere n base was) 0 old.count;
      f = sum_from (elsewhere n base now) 0 x.count;
      less = omega (arith, fewer, within);
      before = ap (λ (u : s.World). occurrences n (live u)) (sym is) ∙ live_count n base old go.indexes_before;
      after = live_count n base x go.indexes_after;
    }

given_before : (w : s.World) (old x : WorldPart) → IsSoundButCode w → world_over w.accounts old ≡ w → (n : ℕ) (c : Counts w old x n) → 1 ≤ c.e + occurrences n (part_identities old) → n < old.next_identity
given_before w old x sound is n c lives =
    let next_is : old.next_identity ≡ w.next_identity = ap (λ (u : s.World). u.next_identity) is in
    let count = c.before in
    let low = where_all (λ i. i < w.next_identity) (live w) (recursion_from_All (λ i. i < w.next_identity) (live w) sound.given) n (omega (arith, count, lives)) in
    omega (arith, next_is, low)

either_way : (old x : WorldPart) → Follows (summary old) (summary x) → (n : ℕ) → 1 ≤ occurrences n (part_identities x) → (1 ≤ occurrences n (part_identities old)) ⊎ (old.next_identity ≤ n)
either_way old x go n there = before_or_new n old.next_identity (part_identities old) (seen_or_new (part_identities old) old.next_identity (part_identities x) go.among_or_new n there)

owner_at : (w : s.World) (old x : WorldPart) → IsSoundButCode w → world_over w.accounts old ≡ w → Follows (summary old) (summary x) → (n : ℕ) → Counts w old x n → occurrences n (live (world_over w.accounts x)) ≤ 1
owner_at w old x sound is go n c =
    let before = c.before in
    let after = c.after in
    let most = once (live w) sound.identities n in
    let own = once (part_identities x) go.identities.0 n in
    let one = one_owner c.e c.f (occurrences n (part_identities old)) (occurrences n (part_identities x)) n old.next_identity c.less (omega (arith, before, most)) (given_before w old x sound is n c) own (either_way old x go n) in
    omega (arith, after, one)

given_at : (w : s.World) (old x : WorldPart) → IsSoundButCode w → world_over w.accounts old ≡ w → Follows (summary old) (summary x) → (n : ℕ) → Counts w old x n → 1 ≤ occurrences n (live (world_over w.accounts x)) → n < x.next_identity
given_at w old x sound is go n c there =
    let after = c.after in
    let known = where_all (λ i. i < x.next_identity) (part_identities x) (recursion_from_All (λ i. i < x.next_identity) (part_identities x) go.identities.1) n in
    all_given c.e c.f (occurrences n (part_identities old)) (occurrences n (part_identities x)) n old.next_identity x.next_identity c.less (given_before w old x sound is n c) go.next_rises known (omega (arith, after, there))

pub live_own : (w : s.World) (old x : WorldPart) → IsSoundButCode w → world_over w.accounts old ≡ w → Follows (summary old) (summary x) → AreOwn x.next_identity (live (world_over w.accounts x))
live_own w old x sound is go = (
  distinct (live (world_over w.accounts x)) (λ n. owner_at w old x sound is go n (counts w old x is go n)),
  All-from_recursion (λ i. i < x.next_identity) (live (world_over w.accounts x))
      (all_where (λ i. i < x.next_identity) (live (world_over w.accounts x)) (λ n there. given_at w old x sound is go n (counts w old x is go n) there)),
)

-- ---- the World

-- what is tested of what is known, but for identities
pub record IsKnownSound (x : WorldPart) : Type 0 where
  pub few : x.count ≤ most_accounts
  pub first : IsFirst x.count x.next_identity
  pub next : x.next_identity ≤ most_next
  pub contracts : SoundContracts (shapes (map contract_of x.contracts.items)) x.count (map contract_of x.contracts.items)
  pub known : AllByRecursion (SoundAccount (shapes (map contract_of x.contracts.items))) (map account_in x.known.items)

empty_sound : (k : Shapes) → SoundAccount k new_account
empty_sound k = record {
  identifiers = refl;
  stored = tt;
  published_rise = refl;
  published = All-from_recursion _ [] tt;
  controllers_rise = refl;
  controllers = All-from_recursion _ [] tt;
  from_one = omega arith;
  next = omega arith;
}

all_sound : (w : s.World) (x : WorldPart) → IsSoundButCode w → shapes w.contracts ≡ shapes (map contract_of x.contracts.items) → IsKnownSound x → All (SoundAccount (shapes (map contract_of x.contracts.items))) (world_over w.accounts x).accounts
all_sound w x sound same known =
    let k = shapes (map contract_of x.contracts.items) in
    let base = subst (λ (j : Shapes). AllByRecursion (SoundAccount j) w.accounts) same (recursion_from_All (SoundAccount (shapes w.contracts)) w.accounts sound.accounts) in
    All-from_recursion (SoundAccount k) (world_over w.accounts x).accounts (each_account (SoundAccount k) (empty_sound k) w.accounts x.known.items 0 x.count base known.known)

pub stays : (before : PartSummary) (x : WorldPart) → IsKnownSound x → Follows before (summary x) → StaysSound before x
stays before x known go w old sound is summed same =
    let v = world_over w.accounts x in
    let contracts = map contract_of x.contracts.items in
    let go_on = subst (λ (a : PartSummary). Follows a (summary x)) summed go in
    let next_is : old.next_identity ≡ w.next_identity = ap (λ (u : s.World). u.next_identity) is in
    let count = length_from w.accounts x.known.items 0 x.count in
    let few = known.few in
    let one = sound.from_one in
    let rises = go_on.next_rises in
    let own = live_own w old x sound is go_on in
    (judged true v
    (record {
      few = omega (arith, count, few);
      from_one = omega (arith, next_is, one, rises);
      next = known.next;
      first = λ none. known.first (sym count ∙ none);
      contracts = subst (λ (n : ℕ). SoundContracts (shapes contracts) n contracts) (sym count) known.contracts;
      accounts = all_sound w x sound same known;
    })
    ((λ h. own), (λ o. refl))).0 refl

pub contracts_of_part : (b : Bool) (k j : Shapes) (count : ℕ) (cs ds : List Contract) → k ≡ j → cs ≡ ds → (IsTrue b ↔ SoundContracts k count (map contract_of cs)) → b ≡ true → SoundContracts j count (map contract_of ds)
contracts_of_part b k j count cs ds declared same tells holds =
    subst (λ (es : List Contract). SoundContracts j count (map contract_of es)) same (subst (λ (i : Shapes). SoundContracts i count (map contract_of cs)) declared (tells.0 holds))

pub accounts_of_part : (b : Bool) (k j : Shapes) (ks ls : List Known) → k ≡ j → ks ≡ ls → (IsTrue b ↔ AllByRecursion (SoundAccount k) (map account_in ks)) → b ≡ true → AllByRecursion (SoundAccount j) (map account_in ls)
accounts_of_part b k j ks ls declared same tells holds =
    subst (λ (ms : List Known). AllByRecursion (SoundAccount j) (map account_in ms)) same (subst (λ (i : Shapes). AllByRecursion (SoundAccount i) (map account_in ks)) declared (tells.0 holds))

pub follows_known : (before after : PartSummary) (x : WorldPart) → after ≡ summary x → Follows before after → Follows before (summary x)
follows_known before after x summed go = subst (λ (a : PartSummary). Follows before a) summed go

-- ---- bytes

empty_has : AccountHasBytes new_account
empty_has = record { stored = tt; lent = tt; borrowed = tt }

pub stays_with_bytes : (x : WorldPart) → AllByRecursion AccountHasBytes (map account_in x.known.items) → AllByRecursion ContractHasBytes (map contract_of x.contracts.items) → StaysWithBytes x
stays_with_bytes x known contracts w has = record { accounts = each_account AccountHasBytes empty_has w.accounts x.known.items 0 x.count has.accounts known; contracts = contracts }
