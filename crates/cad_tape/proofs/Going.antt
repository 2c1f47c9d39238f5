-- A tape whose records were read up to a place.
use Rattle.std.proofs.Common.{◌≡◌, ℕ, zero, suc, ◌<◌, ◌^◌, Option, Some, None, List, [], ◌∷◌, ◌++◌, length, drop, refl, sym, ◌∙◌, ap, subst, arith, append_assoc, length-append}
use Rattle.cad_wire.specs.declared.entry.Entry.{Entry}
use Rattle.cad_wire.specs.Fields.{◌>>=◌, number_field}
use Rattle.cad_wire.specs.Reading.{entries_of}
use Rattle.cad_tape.specs.Framing.{bodies_in, framing, spelled, Ends}
use Rattle.cad_tape.specs.Reading.{records_of, tape_reading, or_none, ending}
use Rattle.cad_tape.specs.Code.Scanning.{IsBad, IsClosed, TakesRecord}
use Rattle.cad_tape.proofs.Read.{AreShort, short_push, whole, read_spelled, spelled-push}

pub record Going (tape : List ℕ) (place : ℕ) (records : List (List Entry)) : Type 0 where
  pub bodies : List (List ℕ)
  pub short : AreShort bodies
  pub is : tape ≡ spelled bodies ++ drop place tape
  pub place_is : place ≡ length (spelled bodies)
  pub read : records_of bodies ≡ Some records

pub going_begins : (tape : List ℕ) → Going tape 0 []
unfolding records_of
going_begins tape = record { bodies = []; short = tt; is = refl; place_is = refl; read = refl }

-- one record more
records_push : (bodies : List (List ℕ)) (body : List ℕ) (records : List (List Entry)) (entries : List Entry) → records_of bodies ≡ Some records → entries_of body ≡ Some entries → records_of (bodies ++ body ∷ []) ≡ Some (records ++ entries ∷ [])
unfolding records_of
records_push [] body records entries e f =
    let none : [] ≡ records = some_is [] records e in
    ap (λ o. o >>= λ x. Some (x ∷ [])) f ∙ ap (λ (l : List (List Entry)). Some (l ++ entries ∷ [])) none
  where
    some_is : (a b : List (List Entry)) → Some a ≡ Some b → a ≡ b
    some_is a b e = cc
records_push (b ∷ bodies) body records entries e f =
    let x = bind_is (entries_of b) (λ es. records_of bodies >>= λ others. Some (es ∷ others)) records e in
    let y = bind_is (records_of bodies) (λ others. Some (x.0 ∷ others)) records x.2 in
    let same : x.0 ∷ y.0 ≡ records = some_is (x.0 ∷ y.0) records y.2 in
    ap (λ o. o >>= λ es. records_of (bodies ++ body ∷ []) >>= λ others. Some (es ∷ others)) x.1
    ∙ ap (λ o. o >>= λ others. Some (x.0 ∷ others)) (records_push bodies body y.0 entries y.1 f)
    ∙ ap (λ (l : List (List Entry)). Some (l ++ entries ∷ [])) same
  where
    bind_is : {A B : Type 0} (o : Option A) (h : A → Option B) (z : B) → (o >>= h) ≡ Some z → (v : A) × (o ≡ Some v) × (h v ≡ Some z)
    bind_is (Some v) h z e = (v, refl, e)
    bind_is None h z e = absurd cc

    some_is : (a b : List (List Entry)) → Some a ≡ Some b → a ≡ b
    some_is a b e = cc

pub going_on : (tape : List ℕ) (place next : ℕ) (records : List (List Entry)) (entries : List Entry) → Going tape place records → TakesRecord entries tape place next → Going tape next (records ++ entries ∷ [])
going_on tape place next records entries going taken =
    let bodies = going.bodies ++ taken.body ∷ [] in
    let is : tape ≡ spelled bodies ++ drop next tape =
    going.is ∙ ap (λ (l : List ℕ). spelled going.bodies ++ l) taken.is ∙ spelled-push going.bodies taken.body (drop next tape) in
    record {
      bodies = bodies;
      short = short_push going.bodies taken.body going.short taken.short;
      is = is;
      place_is = omega (arith, taken.next_is, going.place_is, ap length (spelled-push going.bodies taken.body []), length-append (spelled bodies) [], length-append (spelled going.bodies) (1 ∷ (number_field (length taken.body) ++ (taken.body ++ []))), length-append taken.body []);
      read = records_push going.bodies taken.body records entries going.read taken.read;
    }

-- a closed gate ends them
framed_to : (tape : List ℕ) (place : ℕ) (records : List (List Entry)) (going : Going tape place records) → IsClosed (drop place tape) → framing tape ≡ Some going.bodies
framed_to tape place records going closed =
    ap framing (going.is ∙ ap (λ (l : List ℕ). spelled going.bodies ++ l) closed.is) ∙ read_spelled going.bodies closed.gate closed.rest going.short closed.closed

pub closed_reads : (tape : List ℕ) (place : ℕ) (records : List (List Entry)) → Going tape place records → IsClosed (drop place tape) → tape_reading tape ≡ Some records
closed_reads tape place records going closed = ap (λ o. o >>= records_of) (framed_to tape place records going closed) ∙ going.read

pub closed_ending : (tape : List ℕ) (place : ℕ) (records : List (List Entry)) → Going tape place records → IsClosed (drop place tape) → place ≡ ending tape
closed_ending tape place records going closed = going.place_is ∙ ap (λ o. length (spelled (or_none o))) (sym (framed_to tape place records going closed))

pub closed_ends : (tape : List ℕ) (place next : ℕ) (records : List (List Entry)) → Going tape place records → IsClosed (drop place tape) → next ≡ place → Ends tape (or_none (framing tape)) next
closed_ends tape place next records going closed stays =
    let bodies : going.bodies ≡ or_none (framing tape) = ap or_none (sym (framed_to tape place records going closed)) in
    subst (λ bs. Ends tape bs next) bodies (record {
      gate = closed.gate;
      rest = closed.rest;
      closed = closed.closed;
      is = going.is ∙ ap (λ (l : List ℕ). spelled going.bodies ++ l) closed.is;
      place = stays ∙ going.place_is;
    })

-- bytes that aren't those of records, behind some that are
both_none : (b : List ℕ) (o : Option (List (List ℕ))) → (o >>= records_of) ≡ None → ((o >>= λ bs. Some (b ∷ bs)) >>= records_of) ≡ None
unfolding records_of
both_none b None e = refl
both_none b (Some bs) e = later (entries_of b) e
  where
    later : (o : Option (List Entry)) → records_of bs ≡ None → (o >>= λ es. records_of bs >>= λ others. Some (es ∷ others)) ≡ None
    later None e = refl
    later (Some es) e = ap (λ o. o >>= λ others. Some (es ∷ others)) e

bad_none : (bytes : List ℕ) → (bodies_in 0 bytes >>= records_of) ≡ None
unfolding bodies_in
bad_none bytes = refl

bad_next : (b : List ℕ) (bodies : List (List ℕ)) (left : List ℕ) (n : ℕ) → length b < 2 ^ 64 → (bodies_in n (spelled bodies ++ left) >>= records_of) ≡ None → (bodies_in (suc n) (spelled (b ∷ bodies) ++ left) >>= records_of) ≡ None
bad_next b bodies left n short bad =
    ap (λ o. o >>= records_of) (ap (λ (l : List ℕ). bodies_in (suc n) (1 ∷ (number_field (length b) ++ l))) (append_assoc b (spelled bodies) left) ∙ whole n b (spelled bodies ++ left) short)
    ∙ both_none b (bodies_in n (spelled bodies ++ left)) bad

bad_at : (bodies : List (List ℕ)) (left : List ℕ) (n : ℕ) → AreShort bodies → IsBad left → (bodies_in n (spelled bodies ++ left) >>= records_of) ≡ None
bad_at [] left n short bad = bad n
bad_at (b ∷ bodies) left zero short bad = bad_none (spelled (b ∷ bodies) ++ left)
bad_at (b ∷ bodies) left (suc n) short bad = bad_next b bodies left n short.0 (bad_at bodies left n short.1 bad)

framing_in : (tape : List ℕ) → 0 < length tape → framing tape ≡ bodies_in (length tape) tape
unfolding framing
framing_in [] some = absurd (omega arith)
framing_in (x ∷ tape) some = refl

pub bad_reads : (tape : List ℕ) (place : ℕ) (records : List (List Entry)) → 0 < length tape → Going tape place records → IsBad (drop place tape) → tape_reading tape ≡ None
bad_reads tape place records some going bad =
    ap (λ o. o >>= records_of) (framing_in tape some)
    ∙ ap (λ (l : List ℕ). bodies_in (length tape) l >>= records_of) going.is
    ∙ bad_at going.bodies (drop place tape) (length tape) going.short bad

-- an empty tape
pub none_read : (tape : List ℕ) → length tape ≡ 0 → tape_reading tape ≡ Some []
unfolding framing records_of
none_read [] none = refl
none_read (x ∷ tape) none = absurd (omega arith)

pub none_ending : (tape : List ℕ) → length tape ≡ 0 → 0 ≡ ending tape
unfolding framing
none_ending [] none = refl
none_ending (x ∷ tape) none = absurd (omega arith)
