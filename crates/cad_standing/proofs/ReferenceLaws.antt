-- References to what stands in places.
use Rattle.std.proofs.Common.{◌≡◌, ℕ, Bool, true, false, not, Option, Some, None, Result, Ok, Err, refl, sym, subst}
use Rattle.cad_outcomes.specs.declared.stop.Stop.{Stop}
use Rattle.cad_outcomes.specs.declared.stop.Stop.TheVariants.{Failed, Limit, IllTyped, Memory}
use Rattle.cad_outcomes.specs.Outcomes.{Stops, Gives}
use Rattle.cad_outcomes.proofs.Steps.{then, stopped, gives_here}
use Rattle.cad_syntax.specs.declared.types.Authorization.{Authorization}
use Rattle.cad_evaluation.specs.Casts.{one_less, refer, refer_optional, refer_to, borrowed}
use Rattle.cad_evaluation.specs.Changing.{Content, nothing, content, no_optional, content_of}
use Rattle.cad_evaluation.specs.Standing.{here, is_owned, referred_to, without}
use Rattle.cad_evaluation.specs.Uses.{nil_of, wrapped_if}
use Rattle.cad_world.specs.Locations.{Location, read}
use Rattle.cad_world.specs.Receivers.{is_reference_shape}
use Rattle.cad_world.specs.Rows.{Tree}
use Rattle.cad_world.specs.State.{State, Outcome, ok, failed, limit, ill, bind, Action, ◌>>=◌, give, guard, require}
use Rattle.cad_state.proofs.Finding.{find_same}
use Rattle.cad_state.specs.Views.{state_over, FindsAndCarriesOut}
use Rattle.cad_state.specs.declared.state.RunState.{RunState}
use Rattle.cad_standing.specs.Code.Plans.{PlansAnywhere, reference_by}

-- nothing is done with what it gives
same_again : {A : Type 0} (o : Outcome A) → o ≡ bind o (λ r. give r)
same_again (ok r s) = refl
same_again (failed e) = refl
same_again limit = refl
same_again ill = refl

-- ---- where the result is an optional

nil_refers : (a : Authorization) (x : Location) (one : Bool) (t : Tree) (c : Content) (s : State) → nil_of c s ≡ ok true s → refer_optional a x one c t s ≡ reference_by a x true None s
nil_refers a x one t nothing s e = refl
nil_refers a x one t (content v) s e = cc
nil_refers a x one t no_optional s e = cc

content_refers : (a : Authorization) (x : Location) (one : Bool) (t : Tree) (c : Content) (s : State) → nil_of c s ≡ ok false s
    → refer_optional a x one c t s ≡ reference_by a x true (Some (one_less one t.optionals)) s
content_refers a x one t nothing s e = cc
content_refers a x one t (content v) s e = refl
content_refers a x one t no_optional s e = cc

none_refers : (a : Authorization) (x : Location) (one : Bool) (t : Tree) (c : Content) (s : State) (stop : Stop) → Stops (nil_of c s) stop → Stops (refer_optional a x one c t s) stop
none_refers a x one t no_optional s (Failed e) h = cc
none_refers a x one t no_optional s Limit h = cc
none_refers a x one t no_optional s IllTyped h = refl
none_refers a x one t no_optional s Memory h = tt
none_refers a x one t nothing s (Failed e) h = cc
none_refers a x one t nothing s Limit h = cc
none_refers a x one t nothing s IllTyped h = cc
none_refers a x one t nothing s Memory h = tt
none_refers a x one t (content v) s (Failed e) h = cc
none_refers a x one t (content v) s Limit h = cc
none_refers a x one t (content v) s IllTyped h = cc
none_refers a x one t (content v) s Memory h = tt

pub sees_nil : (a : Authorization) (x : Location) (one : Bool) (t : Tree) → Gives (λ b. b) (nil_of (content_of t)) (Ok true)
    → PlansAnywhere (reference_by a x true) (refer_optional a x one (content_of t) t) (Ok None)
sees_nil a x one t h s = nil_refers a x one t (content_of t) s (h s)

pub sees_content : (a : Authorization) (x : Location) (one : Bool) (t : Tree) → Gives (λ b. b) (nil_of (content_of t)) (Ok false)
    → PlansAnywhere (reference_by a x true) (refer_optional a x one (content_of t) t) (Ok (Some (one_less one t.optionals)))
sees_content a x one t h s = content_refers a x one t (content_of t) s (h s)

pub sees_none : (a : Authorization) (x : Location) (one : Bool) (t : Tree) (stop : Stop) → Gives {B = Bool} (λ b. b) (nil_of (content_of t)) (Err stop)
    → PlansAnywhere (reference_by a x true) (refer_optional a x one (content_of t) t) (Err stop)
sees_none a x one t stop h s = none_refers a x one t (content_of t) s stop (h s)

-- ---- of any value

required : {A B : Type 0} (follow : B → Action A) (b : Bool) (p : Action A) (r : Result B Stop) → b ≡ false → PlansAnywhere follow p r → PlansAnywhere follow (require 107 (not b) p) r
required follow true p r e h = cc
required follow false p r e h = h

pub sees_optional : (a : Authorization) (x : Location) (one : Bool) (t : Tree) (r : Result (Option ℕ) Stop) → is_reference_shape t.shape ≡ false
    → PlansAnywhere (reference_by a x true) (refer_optional a x one (content_of t) t) r → PlansAnywhere (reference_by a x true) (borrowed a x one true (Some t)) r
sees_optional a x one t r e h = required (reference_by a x true) (is_reference_shape t.shape) (refer_to a x one true t) r e h

pub sees_value : (a : Authorization) (x : Location) (one : Bool) (t : Tree) → is_reference_shape t.shape ≡ false
    → PlansAnywhere (reference_by a x false) (borrowed a x one false (Some t)) (Ok (Some (one_less one t.optionals)))
sees_value a x one t e = required (reference_by a x false) (is_reference_shape t.shape) (refer_to a x one false t) (Ok (Some (one_less one t.optionals))) e
    (λ s. same_again (refer a x (one_less one t.optionals) s))

refused : {A : Type 0} (b : Bool) (p : Action A) (s : State) → b ≡ true → require 107 (not b) p s ≡ failed 107
refused true p s e = refl
refused false p s e = cc

pub sees_refused : (a : Authorization) (x : Location) (one wraps : Bool) (t : Tree) (s : State) → is_reference_shape t.shape ≡ true → borrowed a x one wraps (Some t) s ≡ failed 107
sees_refused a x one wraps t s e = refused (is_reference_shape t.shape) (refer_to a x one wraps t) s e

-- ---- what is carried out

pub refers_follows : {D : Type 0} (view : D → Tree) (a : Authorization) (x : Location) (wraps : Bool) (sees : Option ℕ) (n : ℕ) (d : D) (p q : RunState) (r : Result D Stop)
    → sees ≡ Some n → FindsAndCarriesOut view (refer a x n) p q (Ok d) → Gives view (give (wrapped_if wraps (view d))) r → FindsAndCarriesOut view (reference_by a x wraps sees) p q r
refers_follows view a x wraps sees n d p q r e first second =
    subst (λ (o : Option ℕ). FindsAndCarriesOut view (reference_by a x wraps o) p q r) (sym e)
    (λ w ready. then view (refer a x n) (λ t. give (wrapped_if wraps t)) (view d) (state_over w p) (state_over w q) (state_over w q) r (first w ready)
    (gives_here view (give (wrapped_if wraps (view d))) r (state_over w q) second))

pub refers_stops : {D : Type 0} (view : D → Tree) (a : Authorization) (x : Location) (wraps : Bool) (sees : Option ℕ) (n : ℕ) (p q : RunState) (stop : Stop)
    → sees ≡ Some n → FindsAndCarriesOut view (refer a x n) p q (Err stop) → FindsAndCarriesOut view (reference_by a x wraps sees) p q (Err stop)
refers_stops view a x wraps sees n p q stop e first =
    subst (λ (o : Option ℕ). FindsAndCarriesOut view (reference_by a x wraps o) p q (Err stop)) (sym e)
    (λ w ready. stopped view (refer a x n) (λ t. give (wrapped_if wraps t)) (state_over w p) (state_over w q) stop (first w ready))

owned : {A : Type 0} (b : Bool) (p : Action A) (s : State) → b ≡ true → guard b p s ≡ p s
owned true p s e = refl
owned false p s e = cc

pub owned_follows : {D : Type 0} (view : D → Tree) (a : Authorization) (one wraps : Bool) (rights : Option Authorization) (x : Location) (n : ℕ) (p q : RunState) (r : Result D Stop)
    → is_owned rights ≡ true → FindsAndCarriesOut view (read x >>= (λ t. borrowed a x one wraps (without n t))) p q r → FindsAndCarriesOut view (referred_to a one wraps (here rights x n)) p q r
owned_follows view a one wraps rights x n p q r e h =
    find_same view (referred_to a one wraps (here rights x n)) (read x >>= (λ t. borrowed a x one wraps (without n t))) p q r
    (λ w ready. owned (is_owned rights) (read x >>= (λ t. borrowed a x one wraps (without n t))) (state_over w p) e) h
