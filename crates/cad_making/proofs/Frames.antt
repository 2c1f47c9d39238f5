-- The newest call is changed, begins and ends. It stands last in the program's list and first in the definition's.
use Rattle.std.proofs.Common.{◌≡◌, ℕ, suc, ◌-◌, List, [], ◌∷◌, ◌++◌, map, reverse, refl, sym, ap, ◌∙◌, length, get_or, arith}
use Rattle.std.specs.Prelude.{slice_get, slice_set, Some, None, option_map}
use Rattle.std.proofs.lemmas.List.{reverse-append, map-append}
use mathlib.Core.List.{reverse_aux}
use Rattle.std.proofs.lemmas.Option.{slice_get_read}
use Rattle.cad_world.specs.Labels.{on_newest, with_frame, newest}
use Rattle.cad_state.proofs.Frames.{newest_call}
use Rattle.cad_world.specs.State.{Account, Frame}
use Rattle.cad_evaluation.specs.Bodies.{rest_of}
use Rattle.cad_state.specs.Views.{state_over, frame_of}
use Rattle.cad_state.specs.declared.state.Call.{Call}
use Rattle.cad_state.specs.declared.state.RunState.{RunState}

abbrev last_from : Call → List Call → Call
last_from c [] = c
last_from c (d ∷ cs) = last_from d cs

last_read : (c : Call) (cs : List Call) (d : Call) → get_or (c ∷ cs) (length cs) d ≡ last_from c cs
last_read c [] d = refl
last_read c (e ∷ cs) d = last_read e cs d

turned_changed : (g : Frame → Frame) (c : Call) (cs : List Call) (new : Call) (acc : List Frame) → frame_of new ≡ g (frame_of (last_from c cs))
    → reverse_aux (map frame_of (slice_set (c ∷ cs) (length cs) new)) acc ≡ on_newest g (reverse_aux (map frame_of (c ∷ cs)) acc)
turned_changed g c [] new acc e = ap (λ f. f ∷ acc) e
turned_changed g c (d ∷ cs) new acc e = turned_changed g d cs new (frame_of c ∷ acc) e

newest_changed : (g : Frame → Frame) (cs : List Call) (n : ℕ) (old new : Call) → suc n ≡ length cs → old ≡ get_or cs n old → frame_of new ≡ g (frame_of old)
    → reverse (map frame_of (slice_set cs n new)) ≡ on_newest g (reverse (map frame_of cs))
newest_changed g [] n old new h e d = absurd (omega (arith, h))
newest_changed g (c ∷ cs) n old new h e d =
    let last : n ≡ length cs = omega (arith, h) in
    ap (λ i. reverse (map frame_of (slice_set (c ∷ cs) i new))) last
    ∙ turned_changed g c cs new [] (d ∙ ap (λ x. g (frame_of x)) (e ∙ ap (λ i. get_or (c ∷ cs) i old) last ∙ last_read c cs old))

-- the newest call is changed
pub frame_changed : (g : Frame → Frame) (x : RunState) (n : ℕ) (old new : Call) → suc n ≡ length x.calls.items → old ≡ get_or x.calls.items n old → frame_of new ≡ g (frame_of old)
    → (w : List Account) → record (state_over w x) { frames = reverse (map frame_of (slice_set x.calls.items n new)) } ≡ with_frame g (state_over w x)
frame_changed g x n old new h e d w = ap (λ fs. record (state_over w x) { frames = fs }) (newest_changed g x.calls.items n old new h e d)

-- there is none
pub no_frame : (g : Frame → Frame) (x : RunState) → length x.calls.items ≡ 0 → (w : List Account) → state_over w x ≡ with_frame g (state_over w x)
no_frame g x h w = ap (λ fs. record (state_over w x) { frames = fs }) (go x.calls.items h)
  where
    go : (cs : List Call) → length cs ≡ 0 → reverse (map frame_of cs) ≡ on_newest g (reverse (map frame_of cs))
    go [] e = refl
    go (c ∷ cs) e = absurd (omega (arith, e))

-- one call more
pub call_added : (cs : List Call) (c : Call) → reverse (map frame_of (cs ++ c ∷ [])) ≡ frame_of c ∷ reverse (map frame_of cs)
call_added cs c = ap reverse (map-append frame_of cs (c ∷ [])) ∙ reverse-append (map frame_of cs) (frame_of c ∷ [])

-- one call less
pub call_ended : (before after : List Call) (c : Call) → before ≡ after ++ c ∷ [] → reverse (map frame_of after) ≡ rest_of (reverse (map frame_of before))
call_ended before after c e = ap rest_of (sym (call_added after c)) ∙ ap (λ cs. rest_of (reverse (map frame_of cs))) (sym e)

-- the newest call as it is looked at
pub newest_frame : (x : RunState) (n : ℕ) (c : Call) → suc n ≡ length x.calls.items → c ≡ get_or x.calls.items n c → (w : List Account) → newest (state_over w x) ≡ Some (frame_of c)
newest_frame x n c h e w =
    let got : slice_get x.calls.items n ≡ Some c = slice_get_read x.calls.items (length x.calls.items) n c refl (omega (arith, h)) e in
    let last : length x.calls.items - 1 ≡ n = omega (arith, h) in
    newest_call x.calls.items ∙ ap (λ i. option_map frame_of (slice_get x.calls.items i)) last ∙ ap (option_map frame_of) got

pub no_newest : (x : RunState) → length x.calls.items ≡ 0 → (w : List Account) → newest (state_over w x) ≡ None
no_newest x h w = newest_call x.calls.items ∙ go x.calls.items h
  where
    go : (cs : List Call) → length cs ≡ 0 → option_map frame_of (slice_get cs (length cs - 1)) ≡ None
    go [] e = refl
    go (c ∷ cs) e = absurd (omega (arith, e))
