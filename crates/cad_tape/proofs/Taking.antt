-- The record at the front of the bytes that were read.
use Rattle.std.proofs.Common.{◌≡◌, ◌⊎◌, inl, inr, ⊎_elim, ℕ, zero, suc, ◌+◌, ◌-◌, ◌==◌, ◌<◌, ◌≤◌, ◌^◌, Bool, true, false, Option, Some, None, Result, Err, List, [], ◌∷◌, ◌++◌, length, take, drop, refl, sym, ◌∙◌, ap, subst, arith, append_assoc, length-take, length-drop, take-append-drop, if◌then◌else◌, ltb}
use Rattle.std.proofs.lemmas.List.{drop-drop, drop-take, drop_all, take-take, append-nil}
use Rattle.std.proofs.lemmas.Bool.{ltb-true, lt-ltb}
use Rattle.std.proofs.lemmas.Bool.Decides.{nat_tests}
use Rattle.cad_wire.specs.declared.entry.Entry.{Entry}
use Rattle.cad_wire.specs.Fields.{◌>>=◌, number_field, number_at, AreBytes}
use Rattle.cad_wire.specs.Reading.{Gives, entries_of}
use Rattle.cad_wire.specs.declared.error.DecodeError.{DecodeError}
use Rattle.cad_wire.specs.declared.error.DecodeError.TheVariants.{Damaged, Memory}
use Rattle.cad_wire.proofs.FieldLaws.{AreBytes-tail, bind_some, some_is, number_takes, number_again}
use Rattle.cad_tape.specs.Framing.{body_at, bodies_in}
use Rattle.cad_tape.specs.Reading.{records_of}
use Rattle.cad_tape.specs.Code.Scanning.{IsAlong, header_at, IsBad, IsClosed, Takes, TakesRecord}
use Rattle.cad_tape.specs.declared.stop.ScanStop.{ScanStop}
use Rattle.cad_tape.specs.declared.stop.ScanStop.TheVariants as stops
use Rattle.cad_tape.specs.Stops.{stop_of}
use Rattle.cad_tape.proofs.Read.{whole}

-- ---- bytes that aren't those of records

bad_nil : IsBad []
unfolding bodies_in
bad_nil zero = refl
bad_nil (suc n) = refl

bad_body : (rest : List ℕ) → body_at rest ≡ None → IsBad (1 ∷ rest)
unfolding bodies_in
bad_body rest none zero = refl
bad_body rest none (suc n) = ap (λ o. (o >>= λ b. bodies_in n b.1 >>= λ bodies. Some (b.0 ∷ bodies)) >>= records_of) none

no_entries : (body : List ℕ) (o : Option (List (List ℕ))) → entries_of body ≡ None → ((o >>= λ bodies. Some (body ∷ bodies)) >>= records_of) ≡ None
unfolding records_of
no_entries body None none = refl
no_entries body (Some bodies) none = ap (λ o. o >>= λ es. records_of bodies >>= λ others. Some (es ∷ others)) none

bad_zero : (bytes : List ℕ) → (bodies_in 0 bytes >>= records_of) ≡ None
unfolding bodies_in
bad_zero bytes = refl

bad_entries : (body rest : List ℕ) → length body < 2 ^ 64 → entries_of body ≡ None → IsBad (1 ∷ (number_field (length body) ++ (body ++ rest)))
bad_entries body rest short none zero = bad_zero (1 ∷ (number_field (length body) ++ (body ++ rest)))
bad_entries body rest short none (suc n) = ap (λ o. o >>= records_of) (whole n body rest short) ∙ no_entries body (bodies_in n rest) none

no_number : (rest : List ℕ) → number_at rest ≡ None → body_at rest ≡ None
unfolding body_at
no_number rest none = ap (λ o. o >>= λ n. if ltb (length n.1) n.0 then None else Some (take n.0 n.1, drop n.0 n.1)) none

short_number : (rest : List ℕ) → number_at rest ≡ None → length rest < 8
short_number rest none = by (ltb (length rest) 8) _ refl none
  where
    by : (b : Bool) (x : ℕ × List ℕ) → ltb (length rest) 8 ≡ b → (if b then None else Some x) ≡ None → length rest < 8
    by true x is e = ltb-true (length rest) 8 is
    by false x is e = absurd cc

too_long : (n : ℕ) (rest : List ℕ) → n < 2 ^ 64 → length rest < n → body_at (number_field n ++ rest) ≡ None
unfolding body_at
too_long n rest fits long =
    ap (λ o. o >>= λ n. if ltb (length n.1) n.0 then None else Some (take n.0 n.1, drop n.0 n.1)) (number_again n rest fits)
    ∙ ap (λ b. if b then None else Some (take n rest, drop n rest)) (lt-ltb (length rest) n long)

-- ---- the header

if_open : (b : Bool) (o p : Option (Option ℕ)) → (if b then o else Some None) ≡ p → ((b ≡ true) × (o ≡ p)) ⊎ ((b ≡ false) × (Some None ≡ p))
if_open true o p e = inl (refl, e)
if_open false o p e = inr (refl, e)

test_true : (a b : ℕ) → (a == b) ≡ true → a ≡ b
test_true a b e = grind (arith, nat_tests)

test_false : (a b : ℕ) → (a == b) ≡ false → a ≡ b → ⊥
test_false a b e is = grind (arith, nat_tests)

-- what is read is the front of what is left of the tape
pub front_is : (tape unread : List ℕ) (place end : ℕ) → IsAlong tape unread place end → drop place tape ≡ unread ++ drop (place + length unread) tape
front_is tape unread place end along =
    sym (take-append-drop (length unread) (drop place tape)) ∙ (λ i. sym along.is i ++ drop-drop (length unread) place tape i)

module _ (tape : List ℕ) (place end : ℕ) where
  pub no_gate : (unread : List ℕ) → IsAlong tape unread place end → (9 ≤ length unread) ⊎ (length tape ≤ place + length unread) → header_at unread ≡ None → IsBad (drop place tape)
  no_gate [] along enough none = ⊎_elim (λ long. absurd (omega (arith, long))) (λ ended. subst IsBad (sym (drop_all place tape (omega (arith, ended)))) bad_nil) enough
  no_gate (gate ∷ rest) along enough none = ⊎_elim
      (λ is_open.
      let number : number_at rest ≡ None = no_value (number_at rest) is_open.1 in
      let ended : length tape ≤ place + length (gate ∷ rest) = ⊎_elim (λ long. absurd (omega (arith, long, short_number rest number))) (λ e. e) enough in
      let all : drop place tape ≡ 1 ∷ rest = front_is tape (gate ∷ rest) place end along ∙ (λ i. test_true gate 1 is_open.0 i ∷ (rest ++ drop_all (place + length (gate ∷ rest)) tape ended i)) ∙ ap (λ (l : List ℕ). 1 ∷ l) (append-nil rest) in
      subst IsBad (sym all) (bad_body rest (no_number rest number)))
      (λ shut. absurd (cc shut.1))
      (if_open (gate == 1) (number_at rest >>= λ n. Some (Some n.0)) None none)
    where
      no_value : (o : Option (ℕ × List ℕ)) → (o >>= λ n. Some (Some n.0)) ≡ None → o ≡ None
      no_value None e = refl
      no_value (Some n) e = absurd cc

  pub shut_gate : (unread : List ℕ) → IsAlong tape unread place end → header_at unread ≡ Some None → IsClosed (drop place tape)
  shut_gate [] along is = absurd (cc is)
  shut_gate (gate ∷ rest) along is = ⊎_elim
      (λ is_open. absurd (never (number_at rest) is_open.1))
      (λ shut. record { gate = gate; rest = rest ++ drop (place + length (gate ∷ rest)) tape; closed = test_false gate 1 shut.0; is = front_is tape (gate ∷ rest) place end along })
      (if_open (gate == 1) (number_at rest >>= λ n. Some (Some n.0)) (Some None) is)
    where
      never : (o : Option (ℕ × List ℕ)) → (o >>= λ n. Some (Some n.0)) ≡ Some None → ⊥
      never None e = cc
      never (Some n) e = cc

  -- an open gate, and the length of the body behind it
  pub record Opened (n : ℕ) : Type 0 where
    pub rest : List ℕ
    pub short : n < 2 ^ 64
    pub is : drop place tape ≡ 1 ∷ (number_field n ++ rest)
    pub long : length rest + (place + 9) ≡ length tape

  pub opened : (unread : List ℕ) (n : ℕ) → AreBytes unread → IsAlong tape unread place end → header_at unread ≡ Some (Some n) → Opened n
  opened [] n bytes along is = absurd (cc is)
  opened (gate ∷ read) n bytes along is = ⊎_elim
      (λ is_open.
      let b = bind_some (number_at read) (λ x. Some (Some x.0)) (Some n) is_open.1 in
      let same : b.0.0 ≡ n = ap (λ (o : Option ℕ). or_zero o) (some_is (Some b.0.0) (Some n) b.2) in
      let t = number_takes read b.0.0 b.0.1 (AreBytes-tail gate read bytes) b.1 in
      let rest : List ℕ = b.0.1 ++ drop (place + length (gate ∷ read)) tape in
      let front : drop place tape ≡ 1 ∷ (number_field n ++ rest) =
      front_is tape (gate ∷ read) place end along
      ∙ (λ i. test_true gate 1 is_open.0 i ∷ (t.0.parts i ++ drop (place + length (gate ∷ read)) tape))
      ∙ ap (λ (l : List ℕ). 1 ∷ l) (append_assoc (number_field b.0.0) b.0.1 (drop (place + length (gate ∷ read)) tape))
      ∙ ap (λ (k : ℕ). 1 ∷ (number_field k ++ rest)) same in
      record { rest = rest; short = omega (arith, t.1, same); is = front; long = omega (arith, ap length front, length-drop place tape, along.within) })
      (λ shut. absurd (wrong n shut.1))
      (if_open (gate == 1) (number_at read >>= λ x. Some (Some x.0)) (Some (Some n)) is)
    where
      or_zero : Option ℕ → ℕ
      or_zero None = 0
      or_zero (Some k) = k

      wrong : (n : ℕ) → Some None ≡ Some (Some n) → ⊥
      wrong n e = cc

  -- the body passes the end of the tape
  pub past_end : (unread : List ℕ) (n : ℕ) → AreBytes unread → IsAlong tape unread place end → header_at unread ≡ Some (Some n) → (end - place) - 9 < n → IsBad (drop place tape)
  past_end unread n bytes along is long =
      let o = opened unread n bytes along is in
      subst IsBad (sym o.is) (bad_body (number_field n ++ o.rest) (too_long n o.rest o.short (omega (arith, o.long, along.end_is, long))))

  -- or all of it was read
  pub is_whole : (unread more : List ℕ) (n : ℕ) → AreBytes unread → IsAlong tape unread place end → header_at unread ≡ Some (Some n) → n ≤ (end - place) - 9 → IsAlong tape more place end
      → (9 + n ≤ length more) ⊎ (length tape ≤ place + length more) → 9 + n ≤ length more
  is_whole unread more n bytes along is inside again enough =
      let o = opened unread n bytes along is in
      ⊎_elim (λ long. long) (λ ended. omega (arith, ended, o.long, along.end_is, inside)) enough

  -- the body that was read, and what is behind it
  pub record Bodied (n : ℕ) (body : List ℕ) : Type 0 where
    pub long : length body ≡ n
    pub short : n < 2 ^ 64
    pub is : drop place tape ≡ 1 ∷ (number_field (length body) ++ (body ++ drop (place + (9 + n)) tape))

  pub bodied : (unread more body : List ℕ) (n : ℕ) → AreBytes unread → IsAlong tape unread place end → header_at unread ≡ Some (Some n) → IsAlong tape more place end → 9 + n ≤ length more → body ≡ take n (drop 9 more) → Bodied n body
  bodied unread more body n bytes along is again enough body_is =
      let o = opened unread n bytes along is in
      let size : length more ≡ 9 + (length more - 9) = omega (arith, enough) in
      let behind : drop 9 more ≡ take (length more - 9) o.rest =
      ap (λ (l : List ℕ). drop 9 l) (again.is ∙ ap (λ (k : ℕ). take k (drop place tape)) size) ∙ drop-take 9 (length more - 9) (drop place tape) ∙ ap (λ (l : List ℕ). take (length more - 9) (drop 9 l)) o.is in
      let enough_left : n ≤ length o.rest = omega (arith, o.long, again.within, enough) in
      let body_of : body ≡ take n o.rest = body_is ∙ ap (λ (l : List ℕ). take n l) behind ∙ take-take n (length more - 9) o.rest (omega (arith, enough)) in
      let long : length body ≡ n = omega (arith, ap length body_of, length-take n o.rest, enough_left) in
      let rest_of : drop n o.rest ≡ drop (place + (9 + n)) tape = ap (λ (l : List ℕ). drop n (drop 9 l)) (sym o.is) ∙ drop-drop n 9 (drop place tape) ∙ drop-drop (9 + n) place tape in
      record {
        long = long;
        short = o.short;
        is = o.is ∙ (λ i. 1 ∷ (number_field (sym long i) ++ o.rest)) ∙ ap (λ (l : List ℕ). 1 ∷ (number_field (length body) ++ l)) (sym (take-append-drop n o.rest) ∙ (λ i. sym body_of i ++ rest_of i));
      }

  -- the record that stands there
  pub takes_record : (unread more body : List ℕ) (n next : ℕ) (entries : List Entry) → AreBytes unread → IsAlong tape unread place end → header_at unread ≡ Some (Some n) → IsAlong tape more place end → 9 + n ≤ length more → body ≡ take n (drop 9 more)
      → next ≡ place + (9 + n) → entries_of body ≡ Some entries → TakesRecord entries tape place next
  takes_record unread more body n next entries bytes along is again enough body_is next_is read =
      let b = bodied unread more body n bytes along is again enough body_is in
      record {
        body = body;
        short = omega (arith, b.long, b.short);
        is = b.is ∙ (λ i. 1 ∷ (number_field (length body) ++ (body ++ drop (sym next_is i) tape)));
        next_is = omega (arith, next_is, b.long);
        read = read;
      }

  -- or something that is none
  pub bad_record : (unread more body : List ℕ) (n : ℕ) → AreBytes unread → IsAlong tape unread place end → header_at unread ≡ Some (Some n) → IsAlong tape more place end → 9 + n ≤ length more → body ≡ take n (drop 9 more)
      → entries_of body ≡ None → IsBad (drop place tape)
  bad_record unread more body n bytes along is again enough body_is none =
      let b = bodied unread more body n bytes along is again enough body_is in
      subst IsBad (sym b.is) (bad_entries body (drop (place + (9 + n)) tape) (omega (arith, b.long, b.short)) none)

  -- what is left of the bytes that were read
  pub along_taken : (unread now : List ℕ) (k next : ℕ) → IsAlong tape unread place end → k ≤ length unread → now ≡ drop k unread → next ≡ place + k → IsAlong tape now next end
  along_taken unread now k next along inside now_is next_is =
      let size : length unread ≡ k + length now = omega (arith, ap length now_is, length-drop k unread, inside) in
      record {
        is = now_is ∙ ap (λ (l : List ℕ). drop k l) (along.is ∙ ap (λ (m : ℕ). take m (drop place tape)) size) ∙ drop-take k (length now) (drop place tape) ∙ ap (λ (l : List ℕ). take (length now) l) (drop-drop k place tape ∙ ap (λ (m : ℕ). drop m tape) (sym next_is));
        within = omega (arith, along.within, size, next_is);
        end_is = along.end_is;
      }

pub along_at : (tape unread : List ℕ) (p q e f : ℕ) → p ≡ q → e ≡ f → IsAlong tape unread p e → IsAlong tape unread q f
along_at tape unread p q e f place_is end_is along = subst (λ (k : ℕ). IsAlong tape unread k f) place_is (subst (λ (k : ℕ). IsAlong tape unread p k) end_is along)

pub err_takes : (e : DecodeError) (tape : List ℕ) (place next : ℕ) (read : Option (List Entry)) → Gives (Err e) read → (read ≡ None → IsBad (drop place tape)) → Takes (Err (stop_of e)) tape place next
err_takes Damaged tape place next read none bad = bad none
err_takes Memory tape place next read none bad = tt

pub bad_of : (e : ScanStop) (tape : List ℕ) (place next : ℕ) → Takes (Err e) tape place next → e ≡ stops.Damaged → IsBad (drop place tape)
bad_of stops.Damaged tape place next bad is = bad
bad_of stops.Failed tape place next bad is = absurd cc
bad_of stops.Memory tape place next bad is = absurd cc

pub err_is : {T : Type 0} (r : Result T ScanStop) (x y : ScanStop) → r ≡ Err x → r ≡ Err y → x ≡ y
err_is r x y p q = let same = sym p ∙ q in cc
