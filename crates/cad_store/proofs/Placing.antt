-- Where the next record goes.
use Rattle.std.proofs.Common.{◌≡◌, ◌≢◌, ⊎_elim, ℕ, ◌+◌, ◌-◌, ◌%◌, ◌^◌, ◌≤◌, ◌<◌, ◌==◌, Bool, true, false, cond, Some, Result, Ok, Err, OnErr, List, [], ◌∷◌, ◌++◌, length, take, drop, refl, sym, ◌∙◌, ap, subst, arith, length-append}
use Rattle.std.proofs.lemmas.List.{take_all}
use Rattle.std.proofs.lemmas.Bool.{cases_lt}
use Rattle.std.proofs.lemmas.Bool.Decides.{nat_tests}
use Rattle.cad_host.specs.declared.host.Tape.{Tape}
use Rattle.cad_host.specs.declared.host.Tape.TheVariants.{A, B, Pick}
use Rattle.cad_host.specs.Disk.{Event, reads, same_tape, Ran}
use Rattle.cad_tape.specs.Framing.{framing, framed, spelled, Ends}
use Rattle.cad_tape.specs.Reading.{chosen, reading, stored, or_none, ending, pick_of, four_calls, BreaksFour, IsPlaced, Leaves}
use Rattle.cad_tape.proofs.Opened.{free_of_empty, free_of_placed}
use Rattle.cad_store.specs.declared.place.Place.{Place}
use Rattle.cad_store.specs.declared.place.Place.TheVariants.{Behind, Onto}
use Rattle.cad_store.specs.Stores.{IsAt, other, recorded, BreaksRecord, onto_other, behind_records}
use Rattle.cad_store.specs.Code.Opening.{place_behind}

pub other_differs : (t : Tape) → t ≢ Pick → same_tape (other t) t ≡ false
other_differs A e = refl
other_differs B e = refl
other_differs Pick e = absurd (e refl)

pub other_no_pick : (t : Tape) → same_tape (other t) Pick ≡ false
other_no_pick A = refl
other_no_pick B = refl
other_no_pick Pick = refl

never_pick : (b : Bool) → cond b A B ≢ Pick
never_pick true e = cc
never_pick false e = cc

pub chosen_no_pick : (bytes : List ℕ) → chosen bytes ≢ Pick
chosen_no_pick [] e = cc
chosen_no_pick (x ∷ bytes) e = never_pick (x % 2 == 1) e

is_other : (t u : Tape) → u ≢ Pick → same_tape t u ≡ false → same_tape t Pick ≡ false → t ≡ other u
is_other A A p e f = absurd cc
is_other A B p e f = refl
is_other A Pick p e f = absurd (p refl)
is_other B A p e f = refl
is_other B B p e f = absurd cc
is_other B Pick p e f = absurd (p refl)
is_other Pick u p e f = absurd cc

pub none_stored : (m : List Event) (tape : Tape) → IsAt m (Onto tape) → stored m ≡ []
none_stored m tape at = (free_of_empty m tape at.1 at.0.not_used at.0.not_pick).1

pub some_there : (m : List Event) (tape : Tape) (place : ℕ) → IsPlaced m tape place → 0 < length (reads m tape)
some_there m tape place p = omega (arith, ap length p.ends.is, length-append (spelled (stored m)) (p.ends.gate ∷ p.ends.rest))

pub whole_at : (m : List Event) (place : Place) → IsAt m place → reading (reads m) ≡ Some (stored m)
whole_at m (Behind tape at) p =
    let no_pick : tape ≢ Pick = λ e. chosen_no_pick (reads m Pick) (p.used ∙ e) in
    (free_of_placed m tape (other tape) at p (other_differs tape no_pick) (other_no_pick tape)).whole
whole_at m (Onto tape) p = p.0.whole

-- the record's bytes without its gate
pub behind_gate : (bytes body : List ℕ) → bytes ≡ 1 ∷ framed body → take (length bytes - 1) (drop 1 bytes) ≡ framed body
behind_gate bytes body form =
    let long : length (framed body) ≤ length bytes - 1 = omega (arith, ap length form) in
    ap (λ (l : List ℕ). take (length bytes - 1) (drop 1 l)) form ∙ take_all (length bytes - 1) (framed body) long

-- onto a tape goes the first record
pub onto_moments : (old new : List Event) (tape : Tape) (body : List ℕ) → IsAt old (Onto tape) → Ran old new (Leaves old (stored old) (body ∷ [])) → Ran old new (Leaves old (stored old) (stored old ++ body ∷ []))
onto_moments old new tape body at ran = subst (λ (bs : List (List ℕ)). Ran old new (Leaves old (stored old) (bs ++ body ∷ []))) (sym (none_stored old tape at)) ran

pub onto_stored : (old new : List Event) (tape : Tape) (body : List ℕ) → IsAt old (Onto tape) → stored new ≡ body ∷ [] → stored new ≡ stored old ++ body ∷ []
onto_stored old new tape body at e = e ∙ ap (λ (bs : List (List ℕ)). bs ++ body ∷ []) (sym (none_stored old tape at))

-- the calls
abbrev calls_onto : List ℕ → List Event → Tape → List Event
calls_onto body m t = four_calls t 0 (1 ∷ framed body) Pick 0 (pick_of t ∷ []) m

abbrev calls_behind : List ℕ → List Event → Tape → ℕ → List Event
calls_behind body m t at = four_calls t (at + 1) (framed body) t at (1 ∷ []) m

is_zero : (n : ℕ) → n ≡ 0 → (n == 0) ≡ true
is_zero n e = grind (arith, nat_tests)

not_zero : (n : ℕ) → 0 < n → (n == 0) ≡ false
not_zero n e = grind (arith, nat_tests)

pub order_onto : (m new : List Event) (tape : Tape) (bytes body : List ℕ) → IsAt m (Onto tape) → bytes ≡ 1 ∷ framed body → new ≡ four_calls tape 0 bytes Pick 0 (pick_of tape ∷ []) m → new ≡ recorded body m
order_onto m new tape bytes body at form is =
    let used = chosen (reads m Pick) in
    let tape_is : tape ≡ other used = is_other tape used (chosen_no_pick (reads m Pick)) at.0.not_used at.0.not_pick in
    is ∙ (λ i. four_calls (tape_is i) 0 (form i) Pick 0 (pick_of (tape_is i) ∷ []) m)
    ∙ sym (ap (λ (b : Bool). cond b (calls_onto body m (other used)) (calls_behind body m used (ending (reads m used)))) (is_zero (length (reads m used)) at.1))

pub order_behind : (m new : List Event) (tape : Tape) (at : ℕ) (bytes body : List ℕ) → IsPlaced m tape at → bytes ≡ framed body → new ≡ four_calls tape (at + 1) bytes tape at (1 ∷ []) m → new ≡ recorded body m
order_behind m new tape at bytes body p form is =
    let used = chosen (reads m Pick) in
    let some : 0 < length (reads m used) = subst (λ (t : Tape). 0 < length (reads m t)) (sym p.used) (some_there m tape at p) in
    let place : at ≡ ending (reads m used) = p.ends.place in
    is ∙ (λ i. four_calls (sym p.used i) (place i + 1) (form i) (sym p.used i) (place i) (1 ∷ []) m)
    ∙ sym (ap (λ (b : Bool). cond b (calls_onto body m (other used)) (calls_behind body m used (ending (reads m used)))) (not_zero (length (reads m used)) some))

pub breaks_onto : (m new : List Event) (tape : Tape) (bytes body : List ℕ) → IsAt m (Onto tape) → bytes ≡ 1 ∷ framed body → BreaksFour tape 0 bytes Pick 0 (pick_of tape ∷ []) m new → BreaksRecord body m new
breaks_onto m new tape bytes body at form broken =
    let used = chosen (reads m Pick) in
    let tape_is : tape ≡ other used = is_other tape used (chosen_no_pick (reads m Pick)) at.0.not_used at.0.not_pick in
    onto_other at.1 (subst (λ (t : Tape). BreaksFour t 0 (1 ∷ framed body) Pick 0 (pick_of t ∷ []) m new) tape_is (subst (λ l. BreaksFour tape 0 l Pick 0 (pick_of tape ∷ []) m new) form broken))

pub breaks_behind : (m new : List Event) (tape : Tape) (at : ℕ) (bytes body : List ℕ) → IsPlaced m tape at → bytes ≡ framed body → BreaksFour tape (at + 1) bytes tape at (1 ∷ []) m new → BreaksRecord body m new
breaks_behind m new tape at bytes body p form broken =
    let used = chosen (reads m Pick) in
    let some : 0 < length (reads m used) = subst (λ (t : Tape). 0 < length (reads m t)) (sym p.used) (some_there m tape at p) in
    let place : at ≡ ending (reads m used) = p.ends.place in
    behind_records some (subst (λ (t : Tape). BreaksFour t (ending (reads m used) + 1) (framed body) t (ending (reads m used)) (1 ∷ []) m new) (sym p.used)
    (subst (λ n. BreaksFour tape (n + 1) (framed body) tape n (1 ∷ []) m new) place (subst (λ l. BreaksFour tape (at + 1) l tape at (1 ∷ []) m new) form broken)))

-- where a store begins
pub begins_onto : (m : List Event) (tape : Tape) → tape ≡ chosen (reads m Pick) → length (reads m tape) ≡ 0 → IsAt m (Onto (other tape))
begins_onto m tape used none =
    let no_pick : tape ≢ Pick = λ e. chosen_no_pick (reads m Pick) (sym used ∙ e) in
    let empty : length (reads m (chosen (reads m Pick))) ≡ 0 = ap (λ (t : Tape). length (reads m t)) (sym used) ∙ none in
    let not_used : same_tape (other tape) (chosen (reads m Pick)) ≡ false = subst (λ (t : Tape). same_tape (other tape) t ≡ false) used (other_differs tape no_pick) in
    ((free_of_empty m (other tape) empty not_used (other_no_pick tape)).0, empty)

pub begins_behind : (m : List Event) (tape : Tape) (at : ℕ) → tape ≡ chosen (reads m Pick) → Ends (reads m tape) (or_none (framing (reads m tape))) at → length (reads m tape) < 2 ^ 64 → IsAt m (Behind tape at)
begins_behind m tape at used ends fits = record {
  used = sym used;
  ends = subst (λ (t : Tape). Ends (reads m tape) (or_none (framing (reads m t))) at) used ends;
  fits = fits;
}

pub begins : (m : List Event) (tape : Tape) (long at : ℕ) → tape ≡ chosen (reads m Pick) → long ≡ length (reads m tape) → (0 < length (reads m tape) → Ends (reads m tape) (or_none (framing (reads m tape))) at) → length (reads m tape) < 2 ^ 64
    → IsAt m (place_behind tape long at)
begins m tape long at used is ends fits = ⊎_elim
    (λ some.
    let t : (long == 0) ≡ false = not_zero long some in
    subst (λ (b : Bool). IsAt m (cond b (Onto (other tape)) (Behind tape at))) (sym t) (begins_behind m tape at used (ends (omega (arith, is, some))) fits))
    (λ none.
    let t : (long == 0) ≡ true = is_zero long (omega (arith, none)) in
    subst (λ (b : Bool). IsAt m (cond b (Onto (other tape)) (Behind tape at))) (sym t) (begins_onto m tape used (omega (arith, is, none))))
    (cases_lt 0 long)

-- told where a call failed
pub told_err : {T E : Type 0} (r : Result T E) (X : Type 0) → X → OnErr r X
told_err (Ok t) X x = tt
told_err (Err e) X x = x
