-- Runs, one after the other.
use Rattle.std.proofs.Common.{◌≡◌, ⊎_elim, ℕ, suc, ◌-◌, ◌≤◌, List, [], ◌∷◌, ◌++◌, length, drop, refl, sym, ◌∙◌, ap, subst, arith, append_assoc, length-append}
use Rattle.std.proofs.lemmas.Bool.{cases_lt}
use Rattle.std.proofs.lemmas.List.{drop_at}
use Rattle.cad_host.specs.Disk.{Event, Each, Ran}
use Rattle.cad_host.specs.Crash.{at_moment}

each_joined : (P : List Event → Type 0) (later since old : List Event) → Each P later (since ++ old) → Each P since old → Each P (later ++ since) old
each_joined P [] since old second first = first
each_joined P (e ∷ later) since old second first =
    (subst P (ap (λ (l : List Event). e ∷ l) (sym (append_assoc later since old))) second.0, each_joined P later since old second.1 first)

each_map : (P Q : List Event → Type 0) (since old : List Event) → ((m : List Event) → P m → Q m) → Each P since old → Each Q since old
each_map P Q [] old leads p = leads old p
each_map P Q (e ∷ since) old leads p = (leads _ p.0, each_map P Q since old leads p.1)

-- what holds at each moment may be weakened
pub ran_as : (P Q : List Event → Type 0) (old new : List Event) → ((m : List Event) → P m → Q m) → Ran old new P → Ran old new Q
ran_as P Q old new leads ran = record { since = ran.since; is = ran.is; each = each_map P Q ran.since old leads ran.each }

-- one run after another is a run
pub ran_on : (P : List Event → Type 0) (old mid new : List Event) → Ran old mid P → Ran mid new P → Ran old new P
ran_on P old mid new first second = record {
  since = second.since ++ first.since;
  is = second.is ∙ ap (λ (l : List Event). second.since ++ l) first.is ∙ sym (append_assoc second.since first.since old);
  each = each_joined P second.since first.since old (subst (λ m. Each P second.since m) first.is second.each) first.each;
}

-- a run in which nothing happened
pub ran_none : (P : List Event → Type 0) (old : List Event) → P old → Ran old old P
ran_none P old p = record { since = []; is = refl; each = p }

-- the same, where the trace is known to be the old one
pub ran_same : (P : List Event → Type 0) (old new : List Event) → P old → new ≡ old → Ran old new P
ran_same P old new p is = record { since = []; is = is; each = p }

-- a run of one event
pub ran_one : (P : List Event → Type 0) (e : Event) (old new : List Event) → P old → P (e ∷ old) → new ≡ e ∷ old → Ran old new P
ran_one P e old new before behind is = record { since = e ∷ []; is = is; each = (behind, before) }

-- the first moment is one
pub ran_start : (P : List Event → Type 0) (old new : List Event) → Ran old new P → P old
ran_start P old new ran = first ran.since ran.each
  where
    first : (since : List Event) → Each P since old → P old
    first [] p = p
    first (e ∷ since) p = first since p.1

-- and so is the last
pub ran_end : (P : List Event → Type 0) (old new : List Event) → Ran old new P → P new
ran_end P old new ran = subst P (sym ran.is) (last ran.since ran.each)
  where
    last : (since : List Event) → Each P since old → P (since ++ old)
    last [] p = p
    last (e ∷ since) p = p.0

-- and so is each that a crash may be asked for
pub ran_moment : (P : List Event → Type 0) (old new : List Event) (moment : ℕ) → Ran old new P → length old ≤ moment → moment ≤ length new → P (at_moment new moment)
ran_moment P old new moment ran from to = subst (λ (m : List Event). P (at_moment m moment)) (sym ran.is) (among ran.since ran.each (subst (λ (m : List Event). moment ≤ length m) ran.is to))
  where
    at : (m : List Event) (n : ℕ) → n ≡ 0 → P m → P (drop n m)
    at m n is p = subst (λ (k : ℕ). P (drop k m)) (sym is) p

    among : (since : List Event) → Each P since old → moment ≤ length (since ++ old) → P (drop (length (since ++ old) - moment) (since ++ old))
    among [] p within = at old (length old - moment) (omega (arith, from)) p
    among (e ∷ since) p within = ⊎_elim
        (λ earlier. subst (λ (k : ℕ). P (drop k (e ∷ (since ++ old)))) (let one : suc (length (since ++ old) - moment) ≡ suc (length (since ++ old)) - moment = omega (arith, earlier) in one) (among since p.1 (omega (arith, earlier))))
        (λ last. at (e ∷ (since ++ old)) (suc (length (since ++ old)) - moment) (omega (arith, last)) p.0)
        (cases_lt moment (suc (length (since ++ old))))

-- and so is each moment of a run that is known to have come there
pub ran_inside : (P : List Event → Type 0) (old more later : List Event) → Ran old (later ++ (more ++ old)) P → P (more ++ old)
ran_inside P old more later ran =
    let long = length-append later (more ++ old) in
    let here = ran_moment P old (later ++ (more ++ old)) (length (more ++ old)) ran (omega (arith, length-append more old)) (omega (arith, long)) in
    let is : at_moment (later ++ (more ++ old)) (length (more ++ old)) ≡ more ++ old =
    ap (λ (k : ℕ). drop k (later ++ (more ++ old))) (let count : length (later ++ (more ++ old)) - length (more ++ old) ≡ length later = omega (arith, long) in count) ∙ drop_at later (more ++ old) (length later) refl in
    subst P is here
