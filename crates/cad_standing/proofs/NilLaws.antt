-- Optionals in places, and what references lead to.
use Rattle.std.proofs.Common.{◌≡◌, ℕ, zero, suc, Bool, true, false, Option, Result, Ok, Err, refl, sym, ap, subst, ◌∙◌}
use Rattle.cad_outcomes.specs.declared.stop.Stop.{Stop}
use Rattle.cad_outcomes.specs.declared.stop.Stop.TheVariants.{IllTyped}
use Rattle.cad_outcomes.specs.Outcomes.{Gives}
use Rattle.cad_outcomes.proofs.Steps.{then, stopped, does_same, gives_here}
use Rattle.cad_syntax.specs.declared.types.Authorization.{Authorization}
use Rattle.cad_evaluation.specs.Changing.{Content, nothing, content, no_optional, content_of}
use Rattle.cad_evaluation.specs.Numbers.{bool_tree}
use Rattle.cad_evaluation.specs.Standing.{Standing, here, led_by, without, or_nil, content_with, content_at, base_of, value_at}
use Rattle.cad_evaluation.specs.Uses.{nil_of, nil_told, turned_if}
use Rattle.cad_world.specs.Locations.{Location, read}
use Rattle.cad_world.specs.Receivers.{Spot, deref, is_reference}
use Rattle.cad_world.specs.Rows.{NodeShape, Row, Tree}
use Rattle.cad_world.specs.State.{State, Outcome, ok, ill, bind, Action, ◌>>=◌, give, guard}
use Rattle.cad_state.proofs.Finding.{find_same}
use Rattle.cad_state.specs.Views.{state_over, FindsAndCarriesOut}
use Rattle.cad_state.specs.declared.state.RunState.{RunState}
use Rattle.cad_standing.specs.Code.Plans.{nil_there, content_if}
use Rattle.cad_standing.proofs.Composing.{bind_bind, bind_same}

-- an optional round something isn't nil
pub nil_in_some : (n : ℕ) (shape : NodeShape) (parts : Row) (s : State) → ¬ (n ≡ 0) → nil_of (content_of (record { optionals = n; shape = shape; parts = parts })) s ≡ ok false s
nil_in_some zero shape parts s some = absurd (some refl)
nil_in_some (suc n) shape parts s some = refl

-- ---- a place

pub nil_here : (rights : Option Authorization) (x : Location) (n : ℕ) (s : State) → (value_at (here rights x n) >>= (λ t. nil_of (content_of t))) s ≡ nil_there x n s
nil_here rights x n s = bind_bind (read x s) (λ t. give (or_nil (without n t))) (λ t. nil_of (content_of t))

by_content : (forces : Bool) (rights : Option Authorization) (x : Location) (n : ℕ) (c : Content) (s : State) → content_with forces rights x n c s ≡ (nil_of c >>= content_if forces rights x n) s
by_content forces rights x n nothing s = refl
by_content forces rights x n (content t) s = refl
by_content forces rights x n no_optional s = refl

pub content_is : (forces : Bool) (rights : Option Authorization) (x : Location) (n : ℕ) (s : State) → content_at forces (here rights x n) s ≡ (nil_there x n >>= content_if forces rights x n) s
content_is forces rights x n s =
    bind_same (read x s) _ _ (λ t u. by_content forces rights x n (content_of (or_nil (without n t))) u)
    ∙ sym (bind_bind (read x s) (λ t. nil_of (content_of (or_nil (without n t)))) (content_if forces rights x n))

pub told_is : (place : Standing) (negated : Bool) (s : State)
    → (value_at place >>= nil_told negated) s ≡ (value_at place >>= (λ t. nil_of (content_of t)) >>= (λ x. give (bool_tree (turned_if negated x)))) s
told_is place negated s = sym (bind_bind (value_at place s) (λ t. nil_of (content_of t)) (λ x. give (bool_tree (turned_if negated x))))

-- ---- a reference

led_value : {C : Type 0} (b : Bool) (shape : NodeShape) (f : Tree → Action C) (s : State) → b ≡ true
    → (guard b (deref shape >>= (λ spot. give spot.tree)) >>= f) s ≡ (deref shape >>= (λ spot. f spot.tree)) s
led_value true shape f s e = bind_bind (deref shape s) (λ spot. give spot.tree) f
led_value false shape f s e = cc

not_led : {A C : Type 0} (b : Bool) (p : Action A) (f : A → Action C) (s : State) → b ≡ false → (guard b p >>= f) s ≡ ill
not_led true p f s e = cc
not_led false p f s e = refl

led_base : {C : Type 0} (b : Bool) (shape : NodeShape) (f : Spot → Action C) (s : State) → b ≡ true → (guard b (deref shape) >>= f) s ≡ (deref shape >>= f) s
led_base true shape f s e = refl
led_base false shape f s e = cc

pub value_led : {C D : Type 0} (out : D → C) (t : Tree) (shape : NodeShape) (f : Tree → Action C) (x y : RunState) (r : Result D Stop)
    → is_reference t ≡ true → shape ≡ t.shape → FindsAndCarriesOut out (deref shape >>= (λ spot. f spot.tree)) x y r → FindsAndCarriesOut out (value_at (led_by t) >>= f) x y r
value_led out t shape f x y r is same h =
    find_same out (value_at (led_by t) >>= f) (deref t.shape >>= (λ spot. f spot.tree)) x y r (λ w ready. led_value (is_reference t) t.shape f _ is)
    (subst (λ (k : NodeShape). FindsAndCarriesOut out (deref k >>= (λ spot. f spot.tree)) x y r) same h)

pub value_unled : {C D : Type 0} (out : D → C) (t : Tree) (f : Tree → Action C) (x y : RunState)
    → is_reference t ≡ false → FindsAndCarriesOut {B = D} out (value_at (led_by t) >>= f) x y (Err IllTyped)
value_unled out t f x y is w ready = not_led (is_reference t) (deref t.shape >>= (λ spot. give spot.tree)) f _ is

pub base_led : {C D : Type 0} (out : D → C) (t : Tree) (shape : NodeShape) (f : Spot → Action C) (x y : RunState) (r : Result D Stop)
    → is_reference t ≡ true → shape ≡ t.shape → FindsAndCarriesOut out (deref shape >>= f) x y r → FindsAndCarriesOut out (base_of (led_by t) >>= f) x y r
base_led out t shape f x y r is same h =
    find_same out (base_of (led_by t) >>= f) (deref t.shape >>= f) x y r (λ w ready. led_base (is_reference t) t.shape f _ is)
    (subst (λ (k : NodeShape). FindsAndCarriesOut out (deref k >>= f) x y r) same h)

pub base_unled : {C D : Type 0} (out : D → C) (t : Tree) (f : Spot → Action C) (x y : RunState)
    → is_reference t ≡ false → FindsAndCarriesOut {B = D} out (base_of (led_by t) >>= f) x y (Err IllTyped)
base_unled out t f x y is w ready = not_led (is_reference t) (deref t.shape) f _ is

-- ---- what is carried out

pub content_follows : {D : Type 0} (out : D → Standing) (forces : Bool) (rights : Option Authorization) (x : Location) (n : ℕ) (is : Bool) (a b : RunState) (r : Result D Stop)
    → FindsAndCarriesOut {B = Bool} (λ t. t) (nil_there x n) a b (Ok is) → Gives out (content_if forces rights x n is) r → FindsAndCarriesOut out (content_at forces (here rights x n)) a b r
content_follows out forces rights x n is a b r first second w ready =
    does_same out (content_at forces (here rights x n)) (nil_there x n >>= content_if forces rights x n) (state_over w a) (state_over w b) r (content_is forces rights x n (state_over w a))
    (then out (nil_there x n) (content_if forces rights x n) is (state_over w a) (state_over w b) (state_over w b) r (first w ready) (gives_here out (content_if forces rights x n is) r (state_over w b) second))

pub content_stops : {D : Type 0} (out : D → Standing) (forces : Bool) (rights : Option Authorization) (x : Location) (n : ℕ) (a b : RunState) (stop : Stop)
    → FindsAndCarriesOut {B = Bool} (λ t. t) (nil_there x n) a b (Err stop) → FindsAndCarriesOut out (content_at forces (here rights x n)) a b (Err stop)
content_stops out forces rights x n a b stop first w ready =
    does_same out (content_at forces (here rights x n)) (nil_there x n >>= content_if forces rights x n) (state_over w a) (state_over w b) (Err stop) (content_is forces rights x n (state_over w a))
    (stopped out (nil_there x n) (content_if forces rights x n) (state_over w a) (state_over w b) stop (first w ready))

pub nil_stands : (rights : Option Authorization) (x : Location) (n : ℕ) (a b : RunState) (r : Result Bool Stop)
    → FindsAndCarriesOut (λ t. t) (nil_there x n) a b r → FindsAndCarriesOut (λ t. t) (value_at (here rights x n) >>= (λ t. nil_of (content_of t))) a b r
nil_stands rights x n a b r h = find_same (λ t. t) (value_at (here rights x n) >>= (λ t. nil_of (content_of t))) (nil_there x n) a b r (λ w ready. nil_here rights x n (state_over w a)) h

pub told_follows : {D : Type 0} (out : D → Tree) (place : Standing) (negated is : Bool) (d : D) (a b : RunState)
    → FindsAndCarriesOut {B = Bool} (λ t. t) (value_at place >>= (λ t. nil_of (content_of t))) a b (Ok is) → out d ≡ bool_tree (turned_if negated is)
    → FindsAndCarriesOut out (value_at place >>= nil_told negated) a b (Ok d)
told_follows out place negated is d a b first e w ready =
    told_is place negated (state_over w a) ∙ ap (λ (o : Outcome Bool). bind o (λ t. give (bool_tree (turned_if negated t)))) (first w ready)
    ∙ ap (λ (t : Tree). ok t (state_over w b)) (sym e)

pub told_stops : {D : Type 0} (out : D → Tree) (place : Standing) (negated : Bool) (a b : RunState) (stop : Stop)
    → FindsAndCarriesOut {B = Bool} (λ t. t) (value_at place >>= (λ t. nil_of (content_of t))) a b (Err stop) → FindsAndCarriesOut out (value_at place >>= nil_told negated) a b (Err stop)
told_stops out place negated a b stop first w ready =
    does_same out (value_at place >>= nil_told negated) (value_at place >>= (λ t. nil_of (content_of t)) >>= (λ t. give (bool_tree (turned_if negated t))))
    (state_over w a) (state_over w b) (Err stop) (told_is place negated (state_over w a))
    (stopped out (value_at place >>= (λ t. nil_of (content_of t))) (λ t. give (bool_tree (turned_if negated t))) (state_over w a) (state_over w b) stop (first w ready))
