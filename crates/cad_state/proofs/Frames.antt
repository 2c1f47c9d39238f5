-- The newest call, which stands last in the program's list and first in the definition's.
use Rattle.std.proofs.Common.{◌≡◌, ℕ, suc, ◌-◌, List, [], ◌∷◌, map, reverse, Some, refl, sym, ap, ◌∙◌, length, get_or, option_map, arith, Result, Ok, Err, OnOk}
use Rattle.std.specs.Prelude.{slice_get, slice_set}
use mathlib.Core.List.{reverse_aux}
use Rattle.std.proofs.lemmas.Option.{slice_get_read}
use Rattle.cad_world.specs.Labels.{first_of, on_newest, variables, variables_of, with_variables}
use Rattle.cad_world.specs.Rows.{Row, out, slot}
use Rattle.cad_world.specs.State.{Account, Frame}
use Rattle.cad_rows.specs.Views.{pure_row}
use Rattle.cad_state.specs.Views.{state_over, frame_of}
use Rattle.cad_state.specs.Ways.{in_variables}
use Rattle.cad_state.specs.declared.state.Call.{Call}
use Rattle.cad_state.specs.declared.state.RunState.{RunState}

abbrev last_from : Call → List Call → Call
last_from c [] = c
last_from c (d ∷ cs) = last_from d cs

last_got : (c : Call) (cs : List Call) → slice_get (c ∷ cs) (length cs) ≡ Some (last_from c cs)
last_got c [] = refl
last_got c (d ∷ cs) = last_got d cs

turned_first : (c : Call) (cs : List Call) (acc : List Frame) → first_of (reverse_aux (map frame_of (c ∷ cs)) acc) ≡ Some (frame_of (last_from c cs))
turned_first c [] acc = refl
turned_first c (d ∷ cs) acc = turned_first d cs (frame_of c ∷ acc)

pub newest_call : (cs : List Call) → first_of (reverse (map frame_of cs)) ≡ option_map frame_of (slice_get cs (length cs - 1))
newest_call [] = refl
newest_call (c ∷ cs) =
    turned_first c cs [] ∙ sym (ap (option_map frame_of) (let e : length (c ∷ cs) - 1 ≡ length cs = omega arith in ap (slice_get (c ∷ cs)) e ∙ last_got c cs))

turned_written : (g : Row → Row) (c : Call) (cs : List Call) (new : Call) (acc : List Frame) → frame_of new ≡ in_variables g (frame_of (last_from c cs))
    → reverse_aux (map frame_of (slice_set (c ∷ cs) (length cs) new)) acc ≡ on_newest (in_variables g) (reverse_aux (map frame_of (c ∷ cs)) acc)
turned_written g c [] new acc e = ap (λ f. f ∷ acc) e
turned_written g c (d ∷ cs) new acc e = turned_written g d cs new (frame_of c ∷ acc) e

last_read : (c : Call) (cs : List Call) (d : Call) → get_or (c ∷ cs) (length cs) d ≡ last_from c cs
last_read c [] d = refl
last_read c (e ∷ cs) d = last_read e cs d

pub newest_written : (g : Row → Row) (cs : List Call) (n : ℕ) (old new : Call) → suc n ≡ length cs → old ≡ get_or cs n old → frame_of new ≡ in_variables g (frame_of old)
    → reverse (map frame_of (slice_set cs n new)) ≡ on_newest (in_variables g) (reverse (map frame_of cs))
newest_written g [] n old new h e d = absurd (omega (arith, h))
newest_written g (c ∷ cs) n old new h e d =
    let last : n ≡ length cs = omega (arith, h) in
    ap (λ i. reverse (map frame_of (slice_set (c ∷ cs) i new))) last
    ∙ turned_written g c cs new [] (d ∙ ap (λ x. in_variables g (frame_of x)) (e ∙ ap (λ i. get_or (c ∷ cs) i old) last ∙ last_read c cs old))

-- with other variables in the newest call
pub variables_written : (g : Row → Row) (x : RunState) (n : ℕ) (old new : Call) → suc n ≡ length x.calls.items → old ≡ get_or x.calls.items n old → frame_of new ≡ in_variables g (frame_of old)
    → (w : List Account) → record (state_over w x) { frames = reverse (map frame_of (slice_set x.calls.items n new)) } ≡ with_variables g (state_over w x)
variables_written g x n old new h e d w = ap (λ fs. record (state_over w x) { frames = fs }) (newest_written g x.calls.items n old new h e d)

pub no_variables : (g : Row → Row) (x : RunState) → length x.calls.items ≡ 0 → (w : List Account) → state_over w x ≡ with_variables g (state_over w x)
no_variables g x h w = ap (λ fs. record (state_over w x) { frames = fs }) (go x.calls.items h)
  where
    go : (cs : List Call) → length cs ≡ 0 → reverse (map frame_of cs) ≡ on_newest (in_variables g) (reverse (map frame_of cs))
    go [] e = refl
    go (c ∷ cs) e = absurd (omega (arith, e))

-- the variables of the newest call
pub newest_variables : (x : RunState) (n : ℕ) (c : Call) → suc n ≡ length x.calls.items → c ≡ get_or x.calls.items n c → (w : List Account) → variables (state_over w x) ≡ pure_row c.variables.items
newest_variables x n c h e w =
    let got : slice_get x.calls.items n ≡ Some c = slice_get_read x.calls.items (length x.calls.items) n c refl (omega (arith, h)) e in
    let last : length x.calls.items - 1 ≡ n = omega (arith, h) in
    ap variables_of (newest_call x.calls.items ∙ ap (λ i. option_map frame_of (slice_get x.calls.items i)) last ∙ ap (option_map frame_of) got)

pub no_slot : (i : ℕ) (x : RunState) → length x.calls.items ≡ 0 → (w : List Account) → slot i (variables (state_over w x)) ≡ out
no_slot i x h w = go x.calls.items h
  where
    go : (cs : List Call) → length cs ≡ 0 → slot i (variables_of (first_of (reverse (map frame_of cs)))) ≡ out
    go [] e = refl
    go (c ∷ cs) e = absurd (omega (arith, e))

pub on_ok : {A E P Q : Type 0} (r : Result A E) → (P → Q) → OnOk r P → OnOk r Q
on_ok (Ok a) f h = f h
on_ok (Err e) f h = h
