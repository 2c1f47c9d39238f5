-- The steps of a cast of what stands in a variable.
use Rattle.std.proofs.Common.{◌≡◌, ℕ, Bool, true, false, List, Option, Some, None, Result, Ok, Err, refl, sym, ap, subst, ◌∙◌}
use Rattle.cad_outcomes.specs.declared.stop.Stop.{Stop}
use Rattle.cad_outcomes.specs.Outcomes.{Stops, Does}
use Rattle.cad_outcomes.proofs.Steps.{then, stopped, stops_on, does_same}
use Rattle.cad_syntax.specs.Types.{PureType, optional}
use Rattle.cad_types.specs.Below.{below}
use Rattle.cad_evaluation.specs.Casts.{with_type}
use Rattle.cad_evaluation.specs.Changing.{take}
use Rattle.cad_world.specs.Declared.{declarations}
use Rattle.cad_world.specs.Labels.{variables}
use Rattle.cad_world.specs.Locations.{Location, variable, read, read_slot}
use Rattle.cad_world.specs.OwnTypes.{own_type}
use Rattle.cad_world.specs.Rows.{Tree, Slot, out, free, full, slot}
use Rattle.cad_world.specs.State.{State, Account, Outcome, ok, ill, bind, Action, ◌>>=◌, give, choose, or_fail}
use Rattle.cad_world.specs.Transfers.{transferred}
use Rattle.cad_world.specs.Trees.{wrapped}
use Rattle.cad_state.specs.Views.{state_over, IsReady, CarriesOut, FindsAndCarriesOut}
use Rattle.cad_state.specs.declared.state.RunState.{RunState}
use Rattle.cad_standing.specs.CastPlaces.{cast_content, cast_value}
use Rattle.cad_standing.specs.Code.Shells.{over}

-- what is done with a value of this type
abbrev chosen : PureType → Location → PureType → Action (Option Tree)
chosen type x own = λ s. choose (below (declarations s) own type) (take x >>= transferred type >>= cast_content type) (give None) s

by_type : (type : PureType) (x : Location) (o : Option PureType) (s : State) → or_fail 113 o (chosen type x) s ≡ bind (or_fail 113 o (λ own. give own) s) (chosen type x)
by_type type x None s = refl
by_type type x (Some own) s = refl

-- the value has a type
pub cast_typed : {D : Type 0} (view : D → Option Tree) (type own : PureType) (x : Location) (t : Tree) (a b c : RunState) (r : Result D Stop)
    → FindsAndCarriesOut {B = PureType} (λ o. o) (with_type t (λ o. give o)) a b (Ok own)
    → CarriesOut view (λ s. choose (below (declarations s) own type) (take x >>= transferred type >>= cast_content type) (give None) s) b c r
    → FindsAndCarriesOut view (cast_value type x (Some t)) a c r
cast_typed view type own x t a b c r first second w ready =
    does_same view (cast_value type x (Some t)) (with_type t (λ o. give o) >>= chosen type x) (state_over w a) (state_over w c) r (by_type type x (own_type (state_over w a) t) (state_over w a))
    (then view (with_type t (λ o. give o)) (chosen type x) own (state_over w a) (state_over w b) (state_over w c) r (first w ready) (second w))

pub cast_untyped : {D : Type 0} (view : D → Option Tree) (type : PureType) (x : Location) (t : Tree) (a b : RunState) (stop : Stop)
    → FindsAndCarriesOut {B = PureType} (λ o. o) (with_type t (λ o. give o)) a b (Err stop) → FindsAndCarriesOut view (cast_value type x (Some t)) a b (Err stop)
cast_untyped view type x t a b stop first w ready =
    does_same view (cast_value type x (Some t)) (with_type t (λ o. give o) >>= chosen type x) (state_over w a) (state_over w b) (Err stop) (by_type type x (own_type (state_over w a) t) (state_over w a))
    (stopped view (with_type t (λ o. give o)) (chosen type x) (state_over w a) (state_over w b) stop (first w ready))

-- the value in a variable, but for its parts
pub shell_stands : (type : PureType) (n : ℕ) (t u : Tree) (x : RunState) → ((w : List Account) → full t ≡ slot n (variables (state_over w x))) → over t.parts u ≡ t
    → (w : List Account) → IsReady w x → (read (variable n) >>= cast_value type (variable n)) (state_over w x) ≡ cast_value type (variable n) (Some u) (state_over w x)
shell_stands type n t u x e same w ready =
    ap (λ (p : Slot). bind (read_slot (variable n) p (state_over w x)) (cast_value type (variable n))) (sym (e w))
    ∙ ap (λ (v : Tree). cast_value type (variable n) (Some v) (state_over w x)) (sym same)

pub nothing_free : (type : PureType) (n : ℕ) (x : RunState) → ((w : List Account) → free ≡ slot n (variables (state_over w x)))
    → (w : List Account) → IsReady w x → (read (variable n) >>= cast_value type (variable n)) (state_over w x) ≡ ill
nothing_free type n x e w ready = ap (λ (p : Slot). bind (read_slot (variable n) p (state_over w x)) (cast_value type (variable n))) (sym (e w))

pub nothing_out : (type : PureType) (n : ℕ) (x : RunState) → ((w : List Account) → out ≡ slot n (variables (state_over w x)))
    → (w : List Account) → IsReady w x → (read (variable n) >>= cast_value type (variable n)) (state_over w x) ≡ ill
nothing_out type n x e w ready = ap (λ (p : Slot). bind (read_slot (variable n) p (state_over w x)) (cast_value type (variable n))) (sym (e w))

-- by the order of types
pub choice_taken : {D : Type 0} (view : D → Option Tree) (type own : PureType) (x : Location) (b : Bool) (a c : RunState) (r : Result D Stop)
    → ((w : List Account) → b ≡ below (declarations (state_over w a)) own type) → b ≡ true
    → CarriesOut view (take x >>= transferred type >>= cast_content type) a c r → CarriesOut view (chosen type x own) a c r
choice_taken view type own x b a c r is so h w =
    does_same view (chosen type x own) (take x >>= transferred type >>= cast_content type) (state_over w a) (state_over w c) r
    (ap (λ (q : Bool). choose q (take x >>= transferred type >>= cast_content type) (give None) (state_over w a)) (sym (is w) ∙ so)) (h w)

pub choice_stays : {D : Type 0} (view : D → Option Tree) (type own : PureType) (x : Location) (b : Bool) (a : RunState) (d : D)
    → ((w : List Account) → b ≡ below (declarations (state_over w a)) own type) → b ≡ false → view d ≡ None → CarriesOut view (chosen type x own) a a (Ok d)
choice_stays view type own x b a d is other e w =
    ap (λ (q : Bool). choose q (take x >>= transferred type >>= cast_content type) (give None) (state_over w a)) (sym (is w) ∙ other)
    ∙ ap (λ (o : Option Tree). ok o (state_over w a)) (sym e)

-- the content is handed over
pub handed_some : (type own : PureType) (t v : Tree) (s u : State) → own ≡ type → transferred own t s ≡ ok v u → (transferred type t >>= (λ x. give (Some x))) s ≡ ok (Some v) u
handed_some type own t v s u e h = ap (λ (o : Outcome Tree). bind o (λ x. give (Some x))) (subst (λ (k : PureType). transferred k t s ≡ ok v u) e h)

pub handed_none : (type own : PureType) (t : Tree) (s : State) (stop : Stop) → own ≡ type → Stops (transferred own t s) stop → Stops ((transferred type t >>= (λ x. give (Some x))) s) stop
handed_none type own t s stop e h = stops_on (transferred type t s) (λ x. give (Some x)) stop (subst (λ (k : PureType). Stops (transferred k t s) stop) e h)

abbrev value_in : Tree → Outcome Tree → Tree
value_in t (ok v s) = v
value_in t _ = t

pub content_follows : {D : Type 0} (view : D → Option Tree) (type : PureType) (t u : Tree) (a b : RunState) (r : Result D Stop)
    → ((s : State) → give (wrapped t) s ≡ ok u s) → CarriesOut view (transferred (optional type) u >>= (λ x. give (Some x))) a b r → CarriesOut view (cast_content type t) a b r
content_follows view type t u a b r e h w =
    subst (λ (v : Tree). Does view (transferred (optional type) v >>= (λ x. give (Some x))) (state_over w a) (state_over w b) r) (sym (ap (value_in t) (e (state_over w a)))) (h w)
