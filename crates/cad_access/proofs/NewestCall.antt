-- The newest call, and what it makes.
use Rattle.std.proofs.Common.{◌≡◌, ◌<◌, ◌+◌, ◌-◌, ℕ, zero, suc, Bool, true, false, Option, Some, None, Bor, option_map, option_copied, List, [], ◌∷◌, ◌++◌, map, reverse, length, slice_get, refl, sym, ap, ◌∙◌, arith}
use Rattle.std.proofs.lemmas.List.{reverse-append, length-reverse}
use Rattle.cad_types.proofs.Placed.{seen}
use Rattle.cad_world.specs.Labels.{first_of, newest, same_node}
use Rattle.cad_world.specs.State.{Frame, State}
use Rattle.cad_evaluation.specs.Access.{is_made_by}
use Rattle.cad_access.specs.Calls.{MadeIsThat, made_label, is_that}

first_front : (fs : List Frame) (f : Frame) → 0 < length fs → first_of (fs ++ f ∷ []) ≡ first_of fs
first_front [] f some = absurd (omega arith)
first_front (g ∷ fs) f some = refl

-- the last of a list is the first of it from behind
pub last_first : {X : Type 0} (view : X → Frame) (xs : List X) (i : ℕ) → i + 1 ≡ length xs → option_map view (slice_get xs i) ≡ first_of (reverse (map view xs))
last_first view [] i e = absurd (omega arith)
last_first view (x ∷ []) zero e = refl
last_first view (x ∷ []) (suc i) e = absurd (omega arith)
last_first view (x ∷ y ∷ xs) zero e = absurd (omega arith)
last_first view (x ∷ y ∷ xs) (suc i) e =
    last_first view (y ∷ xs) i (omega arith)
    ∙ sym (first_front (reverse (map view (y ∷ xs))) (view x) (omega (arith, length-reverse (map view (y ∷ xs)))))
    ∙ ap first_of (sym (reverse-append (view x ∷ []) (map view (y ∷ xs))))

pub last_is : {X : Type 0} (view : X → Frame) (xs : List X) (r : Option (Bor X)) → option_copied r ≡ slice_get xs (length xs - 1) → option_map (λ (x : Bor X). view x.now) r ≡ first_of (reverse (map view xs))
last_is view [] r e = seen view r None e
last_is view (x ∷ xs) r e = seen view r (slice_get (x ∷ xs) (length (x ∷ xs) - 1)) e ∙ last_first view (x ∷ xs) (length (x ∷ xs) - 1) (omega arith)

pub made_is_that : MadeIsThat
made_is_that s l = by_call (newest s)
  where
    by_call : (o : Option Frame) → is_made_by s l o ≡ is_that s l (made_label o)
    by_call None = refl
    by_call (Some f) = by_kind f.initializes f.self
      where
        by_kind : (b : Bool) (own : Option ℕ) → is_made_by s l (Some (record f { initializes = b; self = own })) ≡ is_that s l (made_label (Some (record f { initializes = b; self = own })))
        by_kind true None = refl
        by_kind true (Some label) = refl
        by_kind false own = refl
