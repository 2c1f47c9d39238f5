-- Where a run can begin, and that a tape is read both ways.
use Rattle.std.proofs.Common.{◌≡◌, ◌⊎◌, inl, inr, ⊎_elim, ℕ, zero, suc, ◌+◌, ◌<◌, ◌^◌, ◌==◌, Bool, true, false, Option, Some, None, List, [], ◌∷◌, ◌++◌, length, map, take, drop, refl, sym, ◌∙◌, ap, subst, arith, append_assoc, length-append, length-take, take-append-drop, if◌then◌else◌, ltb}
use Rattle.std.specs.Prelude.{All}
use Rattle.std.specs.List.{AllByRecursion}
use Rattle.std.proofs.lemmas.Bool.{cases_lt, ltb-false}
use Rattle.std.proofs.lemmas.Bool.Decides.{nat_tests}
use Rattle.std.proofs.lemmas.List.{get_or-drop, get_or-take, get_or_past}
use Rattle.std.proofs.lemmas.List.Elements.{All-from_recursion}
use Rattle.cad_host.specs.declared.host.Tape.{Tape}
use Rattle.cad_host.specs.declared.host.Tape.TheVariants.{Pick}
use Rattle.cad_host.specs.Disk.{Event, reads, same_tape}
use Rattle.cad_wire.specs.declared.entry.Entry.{Entry}
use Rattle.cad_wire.specs.Fields.{◌>>=◌, number_field, number_at, AreBytes}
use Rattle.cad_wire.specs.Body.{body_bytes, IsRecord}
use Rattle.cad_wire.specs.Reading.{entries_of}
use Rattle.cad_wire.proofs.FieldLaws.{AreBytes-tail, bind_some, guard_some, some_is, number_takes}
use Rattle.cad_wire.proofs.BodyLaws.{All-by_recursion, body_takes, body_again}
use Rattle.cad_tape.specs.Framing.{body_at, bodies_in, framing, spelled, Ends}
use Rattle.cad_tape.specs.Reading.{records_of, tape_reading, chosen, reading, stored, or_none, IsPlaced, IsFree}
use Rattle.cad_tape.proofs.Read.{AreShort, short_of, read_spelled}

-- ---- where a run can begin

pub placed_of : (m : List Event) (at : ℕ) → Ends (reads m (chosen (reads m Pick))) (stored m) at → length (reads m (chosen (reads m Pick))) < 2 ^ 64 → IsPlaced m (chosen (reads m Pick)) at
placed_of m at ends fits = record { used = refl; ends = ends; fits = fits }

empty : (bytes : List ℕ) → length bytes ≡ 0 → framing bytes ≡ Some []
unfolding framing
empty [] none = refl
empty (x ∷ bytes) none = absurd (omega arith)

pub free_of_empty : (m : List Event) (onto : Tape) → length (reads m (chosen (reads m Pick))) ≡ 0 → same_tape onto (chosen (reads m Pick)) ≡ false → same_tape onto Pick ≡ false → IsFree m onto × (stored m ≡ [])
free_of_empty m onto none not_used not_pick =
    let reads_none : reading (reads m) ≡ Some [] = empty (reads m (chosen (reads m Pick))) none in
    let stores : stored m ≡ [] = ap or_none reads_none in
    (record { not_used = not_used; not_pick = not_pick; whole = reads_none ∙ ap (λ (bs : List (List ℕ)). Some bs) (sym stores) }, stores)

pub free_of_placed : (m : List Event) (tape onto : Tape) (at : ℕ) → IsPlaced m tape at → same_tape onto tape ≡ false → same_tape onto Pick ≡ false → IsFree m onto
free_of_placed m tape onto at placed not_used not_pick =
    let short : AreShort (stored m) = short_of (stored m) (omega (arith, ap length placed.ends.is, length-append (spelled (stored m)) (placed.ends.gate ∷ placed.ends.rest), placed.fits)) in
    record {
      not_used = subst (λ t. same_tape onto t ≡ false) (sym placed.used) not_used;
      not_pick = not_pick;
      whole = ap (λ t. framing (reads m t)) placed.used ∙ ap framing placed.ends.is ∙ read_spelled (stored m) placed.ends.gate placed.ends.rest short placed.ends.closed;
    }

-- ---- both ways

AreBytes-drop : (n : ℕ) (bytes : List ℕ) → AreBytes bytes → AreBytes (drop n bytes)
AreBytes-drop n bytes h i = rw get_or-drop (h (n + i))

AreBytes-take : (n : ℕ) (bytes : List ℕ) → AreBytes bytes → AreBytes (take n bytes)
AreBytes-take n bytes h i =
    elim (cases_lt i n) [
      | inl lt ↦ rw (get_or-take n bytes i 0 lt) (h i)
      | inr le ↦ rw (get_or_past (take n bytes) i 0 (omega (arith, length-take n bytes))) (omega arith)
    ]

record TakesBody (rest body after : List ℕ) : Type 0 where
  pub is : rest ≡ number_field (length body) ++ (body ++ after)
  pub bytes : AreBytes body
  pub after_bytes : AreBytes after

takes_body : (rest body after : List ℕ) → AreBytes rest → body_at rest ≡ Some (body, after) → TakesBody rest body after
unfolding body_at
takes_body rest body after fits e =
    let b = bind_some (number_at rest) (λ n. if ltb (length n.1) n.0 then None else Some (take n.0 n.1, drop n.0 n.1)) (body, after) e in
    let n = b.0 in
    let t = number_takes rest n.0 n.1 fits b.1 in
    let g = guard_some (ltb (length n.1) n.0) (take n.0 n.1, drop n.0 n.1) (body, after) b.2 in
    let long : length (take n.0 n.1) ≡ n.0 = omega (arith, ltb-false (length n.1) n.0 g.0, length-take n.0 n.1) in
    let whole : rest ≡ number_field (length (take n.0 n.1)) ++ (take n.0 n.1 ++ drop n.0 n.1) = t.0.parts ∙ (λ i. number_field (sym long i) ++ sym (take-append-drop n.0 n.1) i) in
    subst (λ (p : List ℕ × List ℕ). TakesBody rest p.0 p.1) g.1 (record { is = whole; bytes = AreBytes-take n.0 n.1 t.0.rest_fits; after_bytes = AreBytes-drop n.0 n.1 t.0.rest_fits })

record Parted (bytes : List ℕ) (bodies : List (List ℕ)) : Type 0 where
  pub ends : Ends bytes bodies (length (spelled bodies))
  pub are_bytes : AllByRecursion AreBytes bodies

if_open : (b : Bool) (o p : Option (List (List ℕ))) → (if b then o else Some []) ≡ p → ((b ≡ true) × (o ≡ p)) ⊎ ((b ≡ false) × (Some [] ≡ p))
if_open true o p e = inl (refl, e)
if_open false o p e = inr (refl, e)

gate_true : (a b : ℕ) → (a == b) ≡ true → a ≡ b
gate_true a b e = grind (arith, nat_tests)

gate_false : (a b : ℕ) → (a == b) ≡ false → a ≡ b → ⊥
gate_false a b e is = grind (arith, nat_tests)

no_bodies : (gate : ℕ) (rest : List ℕ) (bodies : List (List ℕ)) → (gate ≡ 1 → ⊥) → Some [] ≡ Some bodies → Parted (gate ∷ rest) bodies
no_bodies gate rest bodies shut none =
    subst (λ bs. Parted (gate ∷ rest) bs) (some_is [] bodies none) (record { ends = record { gate = gate; rest = rest; closed = shut; is = refl; place = refl }; are_bytes = tt })

one_more : (gate : ℕ) (rest body after : List ℕ) (bodies : List (List ℕ)) → gate ≡ 1 → TakesBody rest body after → Parted after bodies → Parted (gate ∷ rest) (body ∷ bodies)
one_more gate rest body after bodies is_open taken parted = record {
  ends = record {
    gate = parted.ends.gate;
    rest = parted.ends.rest;
    closed = parted.ends.closed;
    is = (λ i. is_open i ∷ (taken.is ∙ ap (λ (l : List ℕ). number_field (length body) ++ (body ++ l)) parted.ends.is) i)
        ∙ ap (λ (l : List ℕ). 1 ∷ (number_field (length body) ++ l)) (sym (append_assoc body (spelled bodies) (parted.ends.gate ∷ parted.ends.rest)));
    place = refl;
  };
  are_bytes = (taken.bytes, parted.are_bytes);
}

parted_in : (n : ℕ) (bytes : List ℕ) (bodies : List (List ℕ)) → AreBytes bytes → bodies_in n bytes ≡ Some bodies → Parted bytes bodies
unfolding bodies_in
parted_in zero bytes bodies fits e = absurd cc
parted_in (suc n) [] bodies fits e = absurd cc
parted_in (suc n) (gate ∷ rest) bodies fits e = ⊎_elim
    (λ is_open.
    let b = bind_some (body_at rest) (λ b. bodies_in n b.1 >>= λ bs. Some (b.0 ∷ bs)) bodies is_open.1 in
    let o = bind_some (bodies_in n b.0.1) (λ bs. Some (b.0.0 ∷ bs)) bodies b.2 in
    let taken = takes_body rest b.0.0 b.0.1 (AreBytes-tail gate rest fits) b.1 in
    let others = parted_in n b.0.1 o.0 taken.after_bytes o.1 in
    subst (λ bs. Parted (gate ∷ rest) bs) (some_is (b.0.0 ∷ o.0) bodies o.2) (one_more gate rest b.0.0 b.0.1 o.0 (gate_true gate 1 is_open.0) taken others))
    (λ shut. no_bodies gate rest bodies (gate_false gate 1 shut.0) shut.1)
    (if_open (gate == 1) (body_at rest >>= λ b. bodies_in n b.1 >>= λ bs. Some (b.0 ∷ bs)) (Some bodies) e)

parted_of : (bytes : List ℕ) (bodies : List (List ℕ)) → AreBytes bytes → 0 < length bytes → framing bytes ≡ Some bodies → Parted bytes bodies
unfolding framing
parted_of [] bodies fits some e = absurd (omega arith)
parted_of (x ∷ bytes) bodies fits some e = parted_in (suc (length bytes)) (x ∷ bytes) bodies fits e

-- the bodies of records, and back
record AreBodies (bodies : List (List ℕ)) (records : List (List Entry)) : Type 0 where
  pub is : bodies ≡ map body_bytes records
  pub each : AllByRecursion IsRecord records

bodies_of : (bodies : List (List ℕ)) (records : List (List Entry)) → AllByRecursion AreBytes bodies → records_of bodies ≡ Some records → AreBodies bodies records
unfolding records_of
bodies_of [] records fits e = subst (λ rs. AreBodies [] rs) (some_is [] records e) (record { is = refl; each = tt })
bodies_of (body ∷ bodies) records fits e =
    let a = bind_some (entries_of body) (λ es. records_of bodies >>= λ rs. Some (es ∷ rs)) records e in
    let b = bind_some (records_of bodies) (λ rs. Some (a.0 ∷ rs)) records a.2 in
    let first = body_takes body a.0 fits.0 a.1 in
    let others = bodies_of bodies b.0 fits.1 b.1 in
    subst (λ rs. AreBodies (body ∷ bodies) rs) (some_is (a.0 ∷ b.0) records b.2) (record { is = λ i. first.1 i ∷ others.is i; each = (first.0, others.each) })

records_back : (records : List (List Entry)) → AllByRecursion IsRecord records → records_of (map body_bytes records) ≡ Some records
unfolding records_of
records_back [] each = refl
records_back (r ∷ records) each =
    ap (λ o. o >>= λ es. records_of (map body_bytes records) >>= λ rs. Some (es ∷ rs)) (body_again r each.0)
    ∙ ap (λ o. o >>= λ rs. Some (r ∷ rs)) (records_back records each.1)

pub again : (records : List (List Entry)) (gate : ℕ) (rest : List ℕ) → All IsRecord records → length (spelled (map body_bytes records)) < 2 ^ 64 → (gate ≡ 1 → ⊥) → tape_reading (spelled (map body_bytes records) ++ gate ∷ rest) ≡ Some records
again records gate rest each fits shut =
    ap (λ o. o >>= records_of) (read_spelled (map body_bytes records) gate rest (short_of (map body_bytes records) fits) shut) ∙ records_back records (All-by_recursion IsRecord records each)

pub found : (bytes : List ℕ) (records : List (List Entry)) → AreBytes bytes → 0 < length bytes → tape_reading bytes ≡ Some records → All IsRecord records × Ends bytes (map body_bytes records) (length (spelled (map body_bytes records)))
found bytes records fits some e =
    let a = bind_some (framing bytes) records_of records e in
    let parted = parted_of bytes a.0 fits some a.1 in
    let bodies = bodies_of a.0 records parted.are_bytes a.2 in
    (All-from_recursion IsRecord records bodies.each, subst (λ bs. Ends bytes bs (length (spelled bs))) bodies.is parted.ends)
