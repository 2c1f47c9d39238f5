-- Room for changes, one after another.
use Rattle.std.proofs.Common.{◌≡◌, ◌⊎◌, ℕ, zero, suc, ◌+◌, ◌-◌, ◌<◌, ◌≤◌, ◌^◌, Bool, true, false, cond, List, [], ◌∷◌, ◌++◌, length, take, drop, get_or, Result, Ok, Err, refl, sym, ap, subst, ◌∙◌, arith, inl, inr}
use Rattle.std.specs.Prelude.{◌==◌, OnOk}
use Rattle.std.proofs.Math.Seq.{take-suc, take-length}
use Rattle.std.proofs.lemmas.Bool.{cases_Bool, cases_lt, eqb-true}
use Rattle.std.proofs.lemmas.Bool.Decides.{nat_tests}
use Rattle.cad_wire.specs.declared.entry.Entry.{Entry}
use Rattle.cad_wire.specs.Body.{are_ascending}
use Rattle.cad_accounts.specs.declared.block.Block.{Block}
use Rattle.cad_accounts.specs.declared.registers.MapRegisters.{MapRegisters}
use Rattle.cad_accounts.specs.Memory.{begun, block_at, spare, spare_at, falling}
use Rattle.cad_accounts.specs.Room.{rows_of, HasRoom}
use Rattle.cad_accounts.specs.Code.Blocks.{block_from, Keeps, Parts, Widens, Steps, Promised}
use Rattle.cad_accounts.specs.Code.Places.{entry_key, AllBefore}
use Rattle.cad_accounts.specs.KeyOrder.{before, rise}
use Rattle.cad_accounts.proofs.Keys.{passes}
use Rattle.cad_accounts.proofs.Order.{before_of, parted_rises}
use Rattle.cad_accounts.proofs.Middle.{before_append}
use Rattle.cad_accounts.proofs.EntryPlaces.{rising}
use Rattle.cad_accounts.proofs.Storing.{same_falling, eqb_true}
use Rattle.cad_accounts.proofs.Splitting.{keeps_all}

-- ---- keys in order fall to blocks in order

rises_test : (s t : Bool) (m n : ℕ) → (t ≡ true → s ≡ true) → m ≤ n → cond s 0 (suc m) ≤ cond t 0 (suc n)
rises_test true t m n h le = omega arith
rises_test false true m n h le = let wrong : false ≡ true = h refl in absurd cc
rises_test false false m n h le = omega (arith, le)

begun_rises : (blocks : List Block) (a b : List ℕ) → before a b ≡ true → begun blocks a ≤ begun blocks b
begun_rises [] a b lt = omega arith
begun_rises (c ∷ blocks) a b lt =
    rises_test (before a (block_from c)) (before b (block_from c)) (begun blocks a) (begun blocks b) (λ t. passes a b (block_from c) lt t) (begun_rises blocks a b lt)

at_rises : (blocks : List Block) (a b : List ℕ) → before a b ≡ true → block_at blocks a ≤ block_at blocks b
at_rises blocks a b lt = omega (arith, begun_rises blocks a b lt)

-- ---- how many fall to a block

abbrev one : Bool → ℕ
one b = cond b 1 0

falling_append : (blocks : List Block) (i : ℕ) (xs ys : List Entry) → falling blocks i (xs ++ ys) ≡ falling blocks i xs + falling blocks i ys
falling_append blocks i [] ys = omega arith
falling_append blocks i (x ∷ xs) ys = omega (arith, falling_append blocks i xs ys)

differ : (m n : ℕ) → (m ≡ n → ⊥) → (m == n) ≡ false
differ m n h = no (m == n) (λ e. h (eqb-true m n e))
  where
    no : (b : Bool) → (b ≡ true → ⊥) → b ≡ false
    no true h = absurd (h refl)
    no false h = refl

falling_kept : (old new : List Block) (seam : List ℕ) (i : ℕ) (done : List Entry) → Keeps seam old new → AllBefore entry_key done seam → falling new i done ≡ falling old i done
falling_kept old new seam i [] k h = refl
falling_kept old new seam i (e ∷ done) k h = λ j. one (k.places e.key.0 h.0 j == i) + falling_kept old new seam i done k h.1 j

falling_above : (blocks : List Block) (key : List ℕ) (i : ℕ) (done : List Entry) → AllBefore entry_key done key → block_at blocks key < i → falling blocks i done ≡ 0
falling_above blocks key i [] h lt = refl
falling_above blocks key i (e ∷ done) h lt =
    let le = at_rises blocks e.key.0 key h.0 in
    let apart : (block_at blocks e.key.0 == i) ≡ false = differ (block_at blocks e.key.0) i (λ same. absurd (omega (arith, le, lt, same))) in
    let here : one (block_at blocks e.key.0 == i) ≡ 0 = ap one apart in
    omega (arith, here, falling_above blocks key i done h.1 lt)

-- ---- a block that is split

each_kept : (old new : List Block) (seam : List ℕ) (done : List Entry) (i : ℕ) → Keeps seam old new → AllBefore entry_key done seam → falling old i done ≤ spare_at old i → ((i ≤ block_at old seam) ⊎ (block_at old seam < i)) → falling new i done ≤ spare_at new i
each_kept old new seam done i k h fits (inl le) = omega (arith, falling_kept old new seam i done k h, fits, k.room i le)
each_kept old new seam done i k h fits (inr lt) = omega (arith, falling_kept old new seam i done k h, falling_above old seam i done h lt)

either : (m n : ℕ) → (m < n) ⊎ (n ≤ m) → (n ≤ m) ⊎ (m < n)
either m n (inl h) = inr h
either m n (inr h) = inl h

promised_kept : (old new : List Block) (seam : List ℕ) (done : List Entry) (at promised : ℕ) → Keeps seam old new → AllBefore entry_key done seam → Promised old done at promised → Promised new done at promised
promised_kept old new seam done at promised k h p =
    let few = p.here in
    record {
      each = λ i. each_kept old new seam done i k h (p.each i) (either (block_at old seam) i (cases_lt (block_at old seam) i));
      here = omega (arith, falling_kept old new seam at done k h, few);
      above = λ i lt. falling_kept old new seam i done k h ∙ p.above i lt;
      reached = λ key all. omega (arith, p.reached key all, k.grows key);
    }

-- all keys that were taken stand before what stands behind the last
abbrev pub Follows : List Entry → List ℕ → Type 0
Follows done last = (s : List ℕ) → before last s ≡ true → AllBefore entry_key done s

seam_follows : (done : List Entry) (last key seam : List ℕ) → Follows done last → AllBefore entry_key done key → (before last seam ≡ true) ⊎ (seam ≡ key) → AllBefore entry_key done seam
seam_follows done last key seam f all (inl lt) = f seam lt
seam_follows done last key seam f all (inr e) = subst (AllBefore entry_key done) (sym e) all

-- ---- one change more

before_all : (done : List Entry) (a b : List ℕ) → before a b ≡ true → AllBefore entry_key done a → AllBefore entry_key done b
before_all [] a b lt h = tt
before_all (e ∷ done) a b lt h = (passes e.key.0 a b h.0 lt, before_all done a b lt h.1)

last_before : (done : List Entry) (x : Entry) (key : List ℕ) → AllBefore entry_key (done ++ x ∷ []) key → (before x.key.0 key ≡ true) × AllBefore entry_key done key
last_before [] x key h = (h.0, tt)
last_before (e ∷ done) x key h =
    let rest = last_before done x key h.1 in
    (rest.0, (h.0, rest.1))

enough : (block at promised more below : ℕ) → at ≤ block → more ≡ cond (block == at) (promised + 1) 1 → (block ≡ at → below ≤ promised) → (at < block → below ≡ 0) → ((block == at) ≡ true) ⊎ ((block == at) ≡ false) → below + 1 ≤ more
enough block at promised more below le is same later (inl t) =
    let here = same (eqb-true block at t) in
    let value : more ≡ promised + 1 = is ∙ ap (λ (b : Bool). cond b (promised + 1) 1) t in
    omega (arith, here, value)
enough block at promised more below le is same later (inr f) =
    let value : more ≡ 1 = is ∙ ap (λ (b : Bool). cond b (promised + 1) 1) f in
    let apart : block ≡ at → ⊥ = λ e. let wrong : true ≡ false = sym (eqb_true at) ∙ ap (λ n. n == at) (sym e) ∙ f in absurd cc in
    let lt : at < block = grind (arith, apart, le) in
    omega (arith, later lt, value)

each_more : (below room block i more : ℕ) → below ≤ room → (block ≡ i → below + 1 ≤ more) → (block ≡ i → more ≤ room) → ((block == i) ≡ true) ⊎ ((block == i) ≡ false) → below + one (block == i) ≤ room
each_more below room block i more h fit fits (inl t) =
    let same = eqb-true block i t in
    let value : one (block == i) ≡ 1 = ap one t in
    omega (arith, fit same, fits same, value)
each_more below room block i more h fit fits (inr f) =
    let value : one (block == i) ≡ 0 = ap one f in
    omega (arith, h, value)

falling_more : (old new : List Block) (i : ℕ) (done : List Entry) (x : Entry) (block : ℕ) → ((key : List ℕ) → block_at new key ≡ block_at old key) → block ≡ block_at old x.key.0 → falling new i (done ++ x ∷ []) ≡ falling old i done + one (block == i)
falling_more old new i done x block places is =
    let first : one (block_at old x.key.0 == i) ≡ one (block == i) = ap (λ n. one (n == i)) (sym is) in
    omega (arith, same_falling old new i (done ++ x ∷ []) places, falling_append old i done (x ∷ []), first)

promised_more : (old new : List Block) (done : List Entry) (x : Entry) (at promised block more : ℕ) → Promised old done at promised → Widens block more old new → block ≡ block_at old x.key.0 → AllBefore entry_key done x.key.0 → more ≡ cond (block == at) (promised + 1) 1 → Promised new (done ++ x ∷ []) block more
promised_more old new done x at promised block more p w is all value =
    let le : at ≤ block = omega (arith, p.reached x.key.0 all, is) in
    let few = p.here in
    let fits : falling old block done + 1 ≤ more =
    enough block at promised more (falling old block done) le value (λ e. subst (λ n. falling old n done ≤ promised) (sym e) few) (p.above block) (cases_test block at) in
    let room = w.here in
    record {
      each = λ i.
          let sum = falling_more old new i done x block w.places is in
          let each = each_more (falling old i done) (spare_at new i) block i more (omega (arith, p.each i, w.room i)) (λ e. subst (λ n. falling old n done + 1 ≤ more) e fits)
          (λ e. subst (λ n. more ≤ spare_at new n) e room) (cases_test block i) in
          omega (arith, sum, each);
      here =
          let sum = falling_more old new block done x block w.places is in
          let first : one (block == block) ≡ 1 = ap one (eqb_true block) in
          omega (arith, sum, first, fits);
      above = λ i lt.
          let sum = falling_more old new i done x block w.places is in
          let apart : (block == i) ≡ false = differ block i (λ same. absurd (omega (arith, lt, same))) in
          let none : one (block == i) ≡ 0 = ap one apart in
          omega (arith, sum, none, p.above i (omega (arith, le, lt)));
      reached = λ key before_it.
          let both = last_before done x key before_it in
          omega (arith, at_rises old x.key.0 key both.0, is, w.places key);
    }
  where
    cases_test : (m n : ℕ) → ((m == n) ≡ true) ⊎ ((m == n) ≡ false)
    cases_test m n = cases_Bool (m == n)

-- ---- a turn, and the end

pub Turned : List Block → List Entry → List ℕ → ℕ → ℕ → Type 0
Turned blocks done last at promised = Promised blocks done at promised × Follows done last

pub none_yet : (blocks : List Block) (last : List ℕ) → Turned blocks [] last 0 0
unfolding Turned
none_yet blocks last = (record { each = λ i. omega arith; here = omega arith; above = λ i lt. refl; reached = λ key all. omega arith }, λ s lt. tt)

turned_by : (b0 b1 b2 : List Block) (changes : List Entry) (i : ℕ) (x : Entry) (last : List ℕ) (at promised block more : ℕ) → are_ascending changes ≡ true → i < length changes → x ≡ get_or changes i x → Turned b0 (take i changes) last at promised → Parts last x.key.0 b0 b1 → block ≡ block_at b1 x.key.0 → more ≡ cond (block == at) (promised + 1) 1 → Widens block more b1 b2 → Turned b2 (take (suc i) changes) x.key.0 block more
unfolding Turned
turned_by b0 b1 b2 changes i x last at promised block more ascending inside here p parts is value w =
    let around : take (suc i) changes ≡ take i changes ++ x ∷ [] = take-suc changes i x inside ∙ ap (λ (e : Entry). take i changes ++ e ∷ []) (sym here) in
    let rises = parted_rises entry_key changes i x inside (rising changes ascending) in
    let all : AllBefore entry_key (take i changes) x.key.0 = subst (λ (e : Entry). AllBefore entry_key (take i changes) e.key.0) (sym here) (before_of entry_key (take i changes) (get_or changes i x) (drop (suc i) changes) rises) in
    let first = promised_kept b0 b1 parts.seam (take i changes) at promised parts.keeps (seam_follows (take i changes) last x.key.0 parts.seam p.1 all parts.where_is) p.0 in
    let both = promised_more b1 b2 (take i changes) x at promised block more first w is all value in
    subst (λ (l : List Entry). Turned b2 l x.key.0 block more) (sym around) (both, λ s lt. before_append entry_key (take i changes) (x ∷ []) s (before_all (take i changes) x.key.0 s lt all) (lt, tt))

pub turned : (old new : List Block) (changes : List Entry) (i : ℕ) (x : Entry) (last : List ℕ) (at promised block more : ℕ) → are_ascending changes ≡ true → i < length changes → x ≡ get_or changes i x → Turned old (take i changes) last at promised → Steps last x.key.0 at promised block more old new → Turned new (take (suc i) changes) x.key.0 block more
turned old new changes i x last at promised block more ascending inside here p s =
    turned_by old s.middle new changes i x last at promised block more ascending inside here p s.parts s.block_is s.more_is s.widens

-- ---- a room that was widened, and a block that was not split

pub not_split : (last key : List ℕ) (blocks : List Block) → Parts last key blocks blocks
not_split last key blocks = record { seam = key; where_is = inr refl; keeps = keeps_all key blocks }

pub on_ok : {T E P Q : Type 0} (r : Result T E) → (P → Q) → OnOk r P → OnOk r Q
on_ok (Ok x) f p = f p
on_ok (Err e) f p = tt

pub turned_end : (blocks : List Block) (changes : List Entry) (last : List ℕ) (i at promised : ℕ) → length changes ≤ i → Turned blocks (take i changes) last at promised → (k : ℕ) → falling blocks k changes ≤ spare_at blocks k
unfolding Turned
turned_end blocks changes last i at promised end p = λ k. subst (λ (l : List Entry). falling blocks k l ≤ spare_at blocks k) (take_all changes i end) (p.0.each k)
  where
    take_all : (l : List Entry) (n : ℕ) → length l ≤ n → take n l ≡ l
    take_all [] zero h = refl
    take_all [] (suc n) h = refl
    take_all (x ∷ l) zero h = absurd (omega (arith, h))
    take_all (x ∷ l) (suc n) h = ap (λ (m : List Entry). x ∷ m) (take_all l n (omega (arith, h)))

pub room_for : (m : MapRegisters) (changes : List Entry) → ((i : ℕ) → falling m.blocks.items i changes ≤ spare_at m.blocks.items i) → length (rows_of m) + length changes < 2 ^ 32 → HasRoom changes m
room_for m changes each few = record { each = each; few = few }
