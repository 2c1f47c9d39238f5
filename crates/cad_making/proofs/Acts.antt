-- What the parts of an action come to, put together.
use Rattle.std.proofs.Common.{◌≡◌, ◌<◌, ℕ, suc, ◌+◌, ◌-◌, ◌∷◌, Bool, true, false, not, Option, Some, None, List, refl, sym, ap, ◌∙◌, arith}
use Rattle.std.proofs.lemmas.Bool.{lt-ltb, true≢false}
use Rattle.cad_syntax.specs.declared.type_id.TypeId.{TypeId}
use Rattle.cad_world.specs.Rows.{Row, stop, gap, node, Tree, Slot, out, free, full, slot, owns, back, front, cut, bare_tree}
use Rattle.cad_world.specs.State.{State, Frame, Action, ok, ill, bind, require, guard, give, with_some}
use Rattle.cad_world.specs.Labels.{variables, with_variables, newest, with_frame}
use Rattle.cad_evaluation.specs.Bodies.{entered, left, most_calls, rest_of, result_row, result_in, result_taken}
use Rattle.cad_evaluation.specs.Evaluation.{looked}
use Rattle.cad_evaluation.specs.Making.{finished, field_names}
use Rattle.cad_evaluation.specs.Ending.{ended}
use Rattle.cad_outcomes.specs.declared.stop.Stop.{Stop}
use Rattle.cad_outcomes.specs.Outcomes.{Stops}
use Rattle.cad_outcomes.proofs.Steps.{stops_on, stops_same}
use Rattle.cad_syntax.specs.declared.text.Name.{Name}
use Rattle.cad_declarations.specs.Tables.{TypeEntry}
use Rattle.cad_world.specs.Declared.{entry_of}
use Rattle.cad_rows.specs.Places.{bare_in}
use Rattle.cad_making.specs.Code.Calls.{with_call, without_call}
use Rattle.cad_making.specs.Code.Fields.{declared_names, is_set}

abbrev pub called_frame : Option TypeId → Option ℕ → Bool → Row → Frame
called_frame within own initializes r = record { within = within; self = own; initializes = initializes; variables = r; before = stop; result = stop }

pub enters : (within : Option TypeId) (own : Option ℕ) (initializes : Bool) (r : Row) (s u : State) (d : ℕ) → s.depth < 2000 → d ≡ s.depth + 1
    → u ≡ with_call (called_frame within own initializes r) s → entered within own initializes r s ≡ ok tt (record u { depth = d })
enters within own initializes r s u d few more e =
    ap (λ b. require 124 b (λ v. ok tt (record v { frames = called_frame within own initializes r ∷ v.frames; depth = suc v.depth })) s) (lt-ltb s.depth most_calls few)
    ∙ (let n : suc s.depth ≡ d = omega (arith, more) in ap (λ k. ok tt (record (with_call (called_frame within own initializes r) s) { depth = k })) n)
    ∙ ap (λ v. ok tt (record v { depth = d })) (sym e)

-- the variables end
pub ends : (n : ℕ) (s u : State) → false ≡ owns (back n (variables s)) → u ≡ with_variables (front n) s → ended n s ≡ ok tt u
ends n s u none e = ap (λ b. guard (not b) (λ v. ok tt (with_variables (front n) v)) s) (sym none) ∙ ap (ok tt) (sym e)

pub owning : (n : ℕ) (s : State) → true ≡ owns (back n (variables s)) → ended n s ≡ ill
owning n s some = ap (λ b. guard (not b) (λ v. ok tt (with_variables (front n) v)) s) (sym some)

pub leaves : (s mid u : State) (d : ℕ) → ended 0 s ≡ ok tt mid → u ≡ without_call mid → d ≡ u.depth - 1 → left s ≡ ok tt (record u { depth = d })
leaves s mid u d first e less =
    ap (λ o. bind o (λ _ v. ok tt (record v { frames = rest_of v.frames; depth = v.depth - 1 }))) first
    ∙ ap (λ k. ok tt (record (without_call mid) { depth = k })) (sym (less ∙ ap (λ v. v.depth - 1) e))
    ∙ ap (λ v. ok tt (record v { depth = d })) (sym e)

pub stays : (s : State) (why : Stop) → Stops (ended 0 s) why → Stops (left s) why
stays s why h = stops_on (ended 0 s) (λ _ v. ok tt (record v { frames = rest_of v.frames; depth = v.depth - 1 })) why h

pub looks_out : (s mid u : State) → ended 0 s ≡ ok tt mid → u ≡ without_call mid → looked s ≡ ok tt u
looks_out s mid u first e = ap (λ o. bind o (λ _ v. ok tt (record v { frames = rest_of v.frames }))) first ∙ ap (ok tt) (sym e)

pub looks_still : (s : State) (why : Stop) → Stops (ended 0 s) why → Stops (looked s) why
looks_still s why h = stops_on (ended 0 s) (λ _ v. ok tt (record v { frames = rest_of v.frames })) why h

-- ---- results

abbrev is_some : {A : Type 0} → Option A → Bool
is_some None = false
is_some (Some a) = true

abbrev or_it : {A : Type 0} → A → Option A → A
or_it a None = a
or_it a (Some b) = b

abbrev no_result : Frame → Frame
no_result f = record f { result = stop }

pub comes_back : (s u : State) (f : Frame) (t : Tree) → newest s ≡ Some f → Some t ≡ bare_in (slot 0 f.result) → u ≡ with_frame no_result s → result_taken s ≡ ok t u
comes_back s u f t e d h = ap (λ o. result_in (slot 0 (result_row o)) s) e ∙ go (slot 0 f.result) d ∙ ap (ok t) (sym h)
  where
    go : (o : Slot) → Some t ≡ bare_in o → result_in o s ≡ ok t (with_frame no_result s)
    go out d = absurd (true≢false (ap is_some d))
    go free d = absurd (true≢false (ap is_some d))
    go (full x) d = ap (λ o. ok (or_it t o) (with_frame no_result s)) (sym d)

pub no_result_back : (s : State) (f : Frame) → newest s ≡ Some f → None ≡ bare_in (slot 0 f.result) → result_taken s ≡ ill
no_result_back s f e d = ap (λ o. result_in (slot 0 (result_row o)) s) e ∙ go (slot 0 f.result) d
  where
    go : (o : Slot) → None ≡ bare_in o → result_in o s ≡ ill
    go out d = refl
    go free d = refl
    go (full x) d = absurd (true≢false (ap is_some (sym d)))

pub no_call_back : (s : State) → newest s ≡ None → result_taken s ≡ ill
no_call_back s e = ap (λ o. result_in (slot 0 (result_row o)) s) e

-- ---- what is made

pub finishes : (r q : Row) (t : Tree) (s u : State) → is_set (slot 0 r) ≡ true → Some t ≡ bare_in (slot 0 r) → q ≡ cut 0 r → u ≡ record s { making = q } → finished r s ≡ ok t u
finishes r q t s u all there rest e = go r all there ∙ ap (λ x. ok t (record s { making = x })) (sym rest) ∙ ap (ok t) (sym e)
  where
    go : (x : Row) → is_set (slot 0 x) ≡ true → Some t ≡ bare_in (slot 0 x) → finished x s ≡ ok t (record s { making = cut 0 x })
    go stop all there = absurd (true≢false (sym all))
    go (gap x) all there = absurd (true≢false (sym all))
    go (node l n sh k x) all there = ap (λ b. guard b (λ v. ok (bare_tree (record { optionals = n; shape = sh; parts = k })) (record v { making = x })) s) all
        ∙ ap (λ o. ok (or_it t o) (record s { making = x })) (sym there)

pub unfinished : (r : Row) (s : State) → is_set (slot 0 r) ≡ false → finished r s ≡ ill
unfinished stop s none = refl
unfinished (gap x) s none = refl
unfinished (node l n sh k x) s none = ap (λ b. guard b (λ v. ok (bare_tree (record { optionals = n; shape = sh; parts = k })) (record v { making = x })) s) none

pub set_there : (r : Row) (s : State) → is_set (slot 0 r) ≡ true → None ≡ bare_in (slot 0 r) → finished r s ≡ ill
set_there r s all none = go (slot 0 r) all none
  where
    go : (o : Slot) → is_set o ≡ true → None ≡ bare_in o → finished r s ≡ ill
    go out all none = absurd (true≢false (sym all))
    go free all none = absurd (true≢false (sym all))
    go (full x) all none = absurd (true≢false (ap is_some (sym none)))

-- ---- with the names of fields

by_names : {A : Type 0} (f : List Name → Action A) (id : TypeId) (s : State) → with_some (entry_of s id) (λ entry. f (field_names entry.members)) s ≡ bind (declared_names id s) f
by_names {A = A} f id s = go (entry_of s id)
  where
    go : (o : Option TypeEntry) → with_some o (λ entry. f (field_names entry.members)) s ≡ bind (with_some o (λ entry. give (field_names entry.members)) s) f
    go None = refl
    go (Some entry) = refl

pub with_names : {A : Type 0} (f : List Name → Action A) (id : TypeId) (s : State) (names : List Name) → declared_names id s ≡ ok names s → with_some (entry_of s id) (λ entry. f (field_names entry.members)) s ≡ f names s
with_names f id s names e = by_names f id s ∙ ap (λ o. bind o f) e

pub no_names : {A : Type 0} (f : List Name → Action A) (id : TypeId) (s : State) (why : Stop) → Stops (declared_names id s) why → Stops (with_some (entry_of s id) (λ entry. f (field_names entry.members)) s) why
no_names f id s why h = stops_same _ (bind (declared_names id s) f) why (by_names f id s) (stops_on (declared_names id s) f why h)
