-- Casts in three steps.
use Rattle.std.proofs.Common.{◌≡◌, Bool, true, false, Option, Some, None, List, refl, sym, ap, ◌∙◌, subst}
use Rattle.std.specs.Prelude.{Result, Ok, Err, IfOk, IfErr}
use Rattle.std.proofs.lemmas.Bool.{false≢true}
use Rattle.cad_casts.specs.Code.Judged.{judged, handed, refused, cast_if, cast_from}
use Rattle.cad_evaluation.specs.Casts.{with_cast_type, cast}
use Rattle.cad_grammar.specs.declared.expression.CastKind.{CastKind}
use Rattle.cad_grammar.specs.declared.expression.CastKind.TheVariants.{Static, Failable, Forced}
use Rattle.cad_outcomes.proofs.Steps.{gives_here, stops_on, then}
use Rattle.cad_outcomes.specs.Outcomes.{Does, Gives, Stops}
use Rattle.cad_outcomes.specs.declared.stop.Stop.{Stop}
use Rattle.cad_outcomes.specs.declared.stop.Stop.TheVariants.{Memory}
use Rattle.cad_rows.specs.Views.{pure_tree}
use Rattle.cad_rows.specs.declared.tree.Tree.{Tree as Code}
use Rattle.cad_state.specs.Views.{state_over, CarriesOut}
use Rattle.cad_state.specs.declared.state.RunState.{RunState}
use Rattle.cad_syntax.specs.Types.{PureType}
use Rattle.cad_types.specs.Below.{below}
use Rattle.cad_world.specs.Declared.{declarations}
use Rattle.cad_world.specs.Rows.{Tree}
use Rattle.cad_world.specs.State.{State, Account, Outcome, ok, failed, limit, ill, bind, Action, ◌>>=◌, give, choose}
use Rattle.cad_world.specs.Transfers.{transferred}
use Rattle.cad_world.specs.Trees.{wrapped}

given_back : {A : Type 0} (r : Outcome A) → r ≡ bind r (λ a. give a)
given_back (ok a s) = refl
given_back (failed e) = refl
given_back limit = refl
given_back ill = refl

bind_same : {A B : Type 0} (r : Outcome A) (f g : A → Action B) → ((a : A) (s : State) → f a s ≡ g a s) → bind r f ≡ bind r g
bind_same (ok a s) f g e = e a s
bind_same (failed n) f g e = refl
bind_same limit f g e = refl
bind_same ill f g e = refl

chosen : (kind : CastKind) (type : PureType) (t : Tree) (b : Bool) (s : State) → choose b (cast_if kind type t true) (cast_if kind type t false) s ≡ cast_if kind type t b s
chosen kind type t true s = refl
chosen kind type t false s = refl

-- a cast of what is of the type that an action tells
pub cast_by : (kind : CastKind) (type : PureType) (t : Tree) (p : Action PureType) → ((f : PureType → Action Tree) (s : State) → with_cast_type t f s ≡ (p >>= f) s)
    → (s : State) → cast kind type t s ≡ (p >>= (λ own. cast_from kind own type t)) s
cast_by Static type t p told s =
    told (λ own. transferred type t) s ∙ bind_same (p s) (λ own. transferred type t) (λ own. cast_from Static own type t) (λ own u. given_back (transferred type t u))
cast_by Failable type t p told s =
    told _ s ∙ bind_same (p s) _ (λ own. cast_from Failable own type t) (λ own u. chosen Failable type t (below (declarations u) own type) u)
cast_by Forced type t p told s =
    told _ s ∙ bind_same (p s) _ (λ own. cast_from Forced own type t) (λ own u. chosen Forced type t (below (declarations u) own type) u)

-- ---- the steps

pub handed_optional : (kind : CastKind) (t : Tree) (r : Result Code Stop) → kind ≡ Failable → Gives pure_tree (give (wrapped t)) r → Gives pure_tree (give (handed kind t)) r
handed_optional kind t r e h = subst (λ (k : CastKind). Gives pure_tree (give (handed k t)) r) (sym e) h

judged_asks : (kind : CastKind) (own type : PureType) (s : State) → ¬ (kind ≡ Static) → judged kind own type s ≡ ok (below (declarations s) own type) s
judged_asks Static own type s asks = absurd (asks refl)
judged_asks Failable own type s asks = refl
judged_asks Forced own type s asks = refl

memory_stops : {A : Type 0} (r : Outcome A) (why : Stop) → why ≡ Memory → Stops r why
memory_stops r why e = subst (λ (x : Stop). Stops r x) (sym e) tt

pub judged_so : (x : RunState) (kind : CastKind) (own type : PureType) (r : Result Bool Stop) → ¬ (kind ≡ Static)
    → IfOk r (λ is. (accounts : List Account) → is ≡ below (declarations (state_over accounts x)) own type) → IfErr r (λ why. why ≡ Memory)
    → CarriesOut (λ (is : Bool). is) (judged kind own type) x x r
judged_so x kind own type (Ok b) asks told memory = λ w. judged_asks kind own type (state_over w x) asks ∙ ap (λ (is : Bool). ok is (state_over w x)) (sym (told w))
judged_so x kind own type (Err why) asks told memory = λ w. memory_stops (judged kind own type (state_over w x)) why memory

pub cast_passes : (kind : CastKind) (type : PureType) (t : Tree) (passes : Bool) (own : Code) (s u : State) (r : Result Code Stop) → passes ≡ true
    → transferred type t s ≡ ok (pure_tree own) u → Gives pure_tree (give (handed kind (pure_tree own))) r → Does pure_tree (cast_if kind type t passes) s u r
cast_passes kind type t true own s u r e first second =
    then pure_tree (transferred type t) (λ v. give (handed kind v)) (pure_tree own) s u u r first (gives_here pure_tree (give (handed kind (pure_tree own))) r u second)
cast_passes kind type t false own s u r e first second = absurd (false≢true e)

pub cast_stops : (kind : CastKind) (type : PureType) (t : Tree) (passes : Bool) (s : State) (why : Stop) → passes ≡ true → Stops (transferred type t s) why → Stops (cast_if kind type t passes s) why
cast_stops kind type t true s why e h = stops_on (transferred type t s) (λ v. give (handed kind v)) why h
cast_stops kind type t false s why e h = absurd (false≢true e)

pub cast_refused : (kind : CastKind) (type : PureType) (t : Tree) (passes : Bool) (s : State) (r : Result Code Stop) → passes ≡ false → Gives pure_tree (refused kind) r → Does pure_tree (cast_if kind type t passes) s s r
cast_refused kind type t true s r e h = absurd (false≢true (sym e))
cast_refused kind type t false s r e h = gives_here pure_tree (refused kind) r s h
