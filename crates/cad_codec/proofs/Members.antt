-- Reading members one after the other, as a loop does.
use Rattle.std.proofs.Common.{◌≡◌, ℕ, zero, suc, ◌-◌, ◌+◌, ◌≤◌, ◌<◌, List, [], ◌∷◌, ◌++◌, map, Option, Some, None, Ok, Err, refl, sym, ap, ◌∙◌, append_assoc, arith}
use Rattle.std.proofs.lemmas.List.{append-nil}
use Rattle.std.proofs.lemmas.List.{map-append}
use Rattle.cad_wire.specs.declared.error.DecodeError.{DecodeError}
use Rattle.cad_wire.specs.declared.error.DecodeError.TheVariants.{Damaged, Memory}
use Rattle.cad_wire.specs.Fields.{◌>>=◌}
use Rattle.cad_codec.specs.Code.Fields.{At, members_at, ReadsAs}

-- what was read before, and what is still read
abbrev pub with_front : {A : Type 0} → List A → Option (List A × List ℕ) → Option (List A × List ℕ)
with_front front read = read >>= λ x. Some (front ++ x.0, x.1)

regroup : {A : Type 0} (front : List A) (e : A) (read : Option (List A × List ℕ)) → with_front front (read >>= λ x. Some (e ∷ x.0, x.1)) ≡ with_front (front ++ e ∷ []) read
regroup {A} front e (Some x) = ap (λ (es : List A). Some (es, x.1)) (sym (append_assoc front (e ∷ []) x.0))
regroup front e None = refl

pub goes_on : {A : Type 0} (item : At A) (front : List A) (count i : ℕ) (bytes : List ℕ) (e : A) (after : List ℕ) (total : Option (List A × List ℕ)) → i < count → item bytes ≡ Some (e, after)
    → with_front front (members_at item (count - i) bytes) ≡ total → with_front (front ++ e ∷ []) (members_at item (count - (i + 1)) after) ≡ total
unfolding members_at
goes_on item front count i bytes e after total lt h so_far =
    let k : count - i ≡ suc (count - (i + 1)) = omega arith in
    let one : with_front front (members_at item (count - i) bytes) ≡ with_front (front ++ e ∷ []) (members_at item (count - (i + 1)) after) = rw (k, h) (regroup front e (members_at item (count - (i + 1)) after)) in
    sym one ∙ so_far

-- the same where the front is seen by a view
pub goes_on_seen : {X A : Type 0} (view : X → A) (item : At A) (front pushed : List X) (count i : ℕ) (bytes : List ℕ) (x : X) (after : List ℕ) (total : Option (List A × List ℕ)) → i < count → item bytes ≡ Some (view x, after)
    → pushed ≡ front ++ x ∷ [] → with_front (map view front) (members_at item (count - i) bytes) ≡ total → with_front (map view pushed) (members_at item (count - (i + 1)) after) ≡ total
goes_on_seen {X} {A} view item front pushed count i bytes x after total lt h is so_far =
    let seen : map view pushed ≡ map view front ++ view x ∷ [] = ap (map view) is ∙ map-append view front (x ∷ []) in
    ap (λ (xs : List A). with_front xs (members_at item (count - (i + 1)) after)) seen ∙ goes_on item (map view front) count i bytes (view x) after total lt h so_far

pub ends : {X A B : Type 0} (view : X → A) (whole : B → List A) (error : DecodeError) (item : At A) (front : List A) (count i : ℕ) (bytes rest new : List ℕ) (total : Option (List A × List ℕ)) → i < count → ReadsAs view (Err error) (item bytes) rest
    → with_front front (members_at item (count - i) bytes) ≡ total → ReadsAs whole (Err error) total new
unfolding members_at
ends view whole Memory item front count i bytes rest new total lt h so_far = tt
ends view whole Damaged item front count i bytes rest new total lt h so_far =
    let k : count - i ≡ suc (count - (i + 1)) = omega arith in
    let one : with_front front (members_at item (count - i) bytes) ≡ None = rw (k, h) refl in
    sym so_far ∙ one

pub is_done : {A : Type 0} (item : At A) (front : List A) (count i : ℕ) (bytes : List ℕ) (total : Option (List A × List ℕ)) → count ≤ i → with_front front (members_at item (count - i) bytes) ≡ total → total ≡ Some (front, bytes)
unfolding members_at
is_done {A} item front count i bytes total le so_far =
    let k : count - i ≡ 0 = omega arith in
    let one : with_front front (members_at item (count - i) bytes) ≡ Some (front, bytes) = rw k (ap (λ (es : List A). Some (es, bytes)) (append-nil front)) in
    sym so_far ∙ one
