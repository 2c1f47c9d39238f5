-- How far a generated session has come.
use Rattle.std.proofs.Common.{◌≡◌, ℕ, suc, ◌<◌, ◌+◌, List, [], ◌∷◌, ◌++◌, length, take, get_or, Some, unwrap_or, refl, sym, ◌∙◌, ap, subst, arith, append_assoc}
use Rattle.std.proofs.lemmas.List.{take_more}
use Rattle.serde_json.specs.Data.{Data}
use Rattle.cad_accounts.specs.Registers.{Map, folded, no_registers}
use Rattle.cad_generation.specs.Lines.{transfers, transfer_of}
use Rattle.cad_generation.specs.Numbers.{number, next_number}
use Rattle.cad_host.specs.Disk.{reads}
use Rattle.cad_loads.specs.Loads as loads
use Rattle.cad_runs.specs.Commands.{Reply}
use Rattle.cad_store.specs.declared.store.Store.{Store}
use Rattle.cad_store.specs.Stores.{held, DiskHolds}
use Rattle.cad_world.specs.Begin.{empty_world}
use Rattle.cad_world.specs.Sound.{Sound}
use Rattle.cad_tape.specs.Framing.{framing}
use Rattle.cad_tape.specs.Reading.{records_of, tape_reading}
use Rattle.cad_wire.specs.declared.entry.Entry.{Entry}
use Rattle.cad_world.specs.State.{World}
use Rattle.cad_worlds.specs.Standing.{StandsFor, any_accepted}
use Rattle.cad_serve.proofs.Batches.{all_append}
use Rattle.cad_answers.specs.Answer.{Answers}
use Rattle.cad_serve.specs.Code.Counted.{IsCounted, HasRunAll}
use Rattle.cad_serve.specs.declared.counting.Counts.{Counts}

after : (i : ℕ) → suc i ≡ i + 1
after i = omega arith

-- one more line
pub ran_line : (w : World) (before : List (List ℕ)) (line : List ℕ) (a : Reply Data) (v : World) (old new : Counts) (store_old store_new : Store) → (h : HasRunAll w before old store_old)
    → Answers h.world line a v → (IsCounted old h.answers → IsCounted new (h.answers ++ a ∷ [])) → StandsFor (held store_new) v → HasRunAll w (before ++ line ∷ []) new store_new
ran_line w before line a v old new store_old store_new h answers counts stands = record {
  answers = h.answers ++ a ∷ [];
  world = v;
  are = all_append w h.world v before (line ∷ []) h.answers (a ∷ []) h.are (v, answers, refl);
  counted = counts h.counted;
  stands = stands;
}

-- no line
pub ran_none : (w : World) (counts : Counts) (store : Store) → IsCounted counts [] → StandsFor (held store) w → HasRunAll w [] counts store
ran_none w counts store counted stands = record { answers = []; world = w; are = refl; counted = counted; stands = stands }

pub ran_as : (w : World) (xs ys : List (List ℕ)) (counts : Counts) (store : Store) → xs ≡ ys → HasRunAll w xs counts store → HasRunAll w ys counts store
ran_as w xs ys counts store same h = subst (λ l. HasRunAll w l counts store) same h

-- lines of a list, one after another
pub lines_more : (before lines : List (List ℕ)) (i : ℕ) (line : List ℕ) → i < length lines → line ≡ get_or lines i line → (before ++ take i lines) ++ line ∷ [] ≡ before ++ take (i + 1) lines
lines_more before lines i line lt is = append_assoc before (take i lines) (line ∷ []) ∙ ap (λ l. before ++ l) (ap (λ x. take i lines ++ x ∷ []) is ∙ sym (take_more lines i line lt))

-- transfers, one after another
pub transfers_more : (before : List (List ℕ)) (n i : ℕ) (x : ℕ) (line : List ℕ) → x ≡ number n i → line ≡ transfer_of (next_number x) → (before ++ transfers n i) ++ line ∷ [] ≡ before ++ transfers n (i + 1)
transfers_more before n i x line at is =
    append_assoc before (transfers n i) (line ∷ [])
    ∙ ap (λ l. before ++ (transfers n i ++ l ∷ [])) (is ∙ ap (λ y. transfer_of (next_number y)) at)
    ∙ ap (λ k. before ++ transfers n k) (after i)

pub transfers_all : (before : List (List ℕ)) (n i : ℕ) → i ≡ n → before ++ transfers n i ≡ before ++ transfers n n
transfers_all before n i end = ap (λ k. before ++ transfers n k) end

pub next_more : (n i x y : ℕ) → x ≡ number n i → y ≡ next_number x → y ≡ number n (i + 1)
next_more n i x y at is = is ∙ ap next_number at ∙ ap (number n) (after i)

-- ---- no accounts

nothing_sound : Sound any_accepted empty_world
nothing_sound = record {
  few = omega arith;
  accounts = λ k d lt. absurd (omega (arith, lt));
  contracts_rise = refl;
  contracts = λ k d lt. absurd (omega (arith, lt));
  identities = tt;
  given = λ k d lt. absurd (omega (arith, lt));
  from_one = omega arith;
  next = omega arith;
  first = λ e. refl;
}

nothing_stands : StandsFor no_registers empty_world
nothing_stands = record {
  are = λ key. refl;
  sound = (nothing_sound, loads.none);
  has_bytes = record { accounts = tt; contracts = tt };
}

some_same : {A : Type 0} (x y : A) → Some x ≡ Some y → x ≡ y
some_same x y e = ap (λ o. unwrap_or o x) e

no_records : (m : Map) (records : List (List Entry)) → Some [] ≡ Some records → ((key : List ℕ) → folded records no_registers key ≡ m key) → no_registers ≡ m
no_records m records read is = λ i key. (ap (λ rs. folded rs no_registers key) (some_same [] records read) ∙ is key) i

none_read : tape_reading [] ≡ Some []
unfolding framing records_of
none_read = refl

-- the registers of empty tapes stand for no account
pub empty_stands : (m : Map) → DiskHolds (reads []) m → StandsFor m empty_world
empty_stands m h = subst (λ n. StandsFor n empty_world) (no_records m h.records (sym none_read ∙ h.reading) h.is) nothing_stands
