-- Arguments that come to parameters, one after the other.
use Rattle.std.proofs.Common.{◌≡◌, suc, ◌≤◌, ◌<◌, Bool, true, false, refl, sym, ap, subst, ◌∙◌, drop, get_or, arith, vec_len, option_map}
use Rattle.std.proofs.lemmas.Bool.{false≢true}
use Rattle.std.specs.Prelude.{List, [], ◌∷◌, length, map, ◌==◌, Option, Some, None, Result, Ok, Err}
use Rattle.std.specs.declared.alloc.Global.{Global}
use Rattle.std.specs.declared.vec.Vec.{Vec}
use Rattle.cad_declarations.specs.MemberViews.{parameter_of, signature_of}
use Rattle.cad_declarations.specs.declared.member.Parameter.{Parameter}
use Rattle.cad_declarations.specs.declared.member.Signature.{Signature}
use Rattle.cad_evaluation.specs.Adding.{all_fitted, fitted, parameters_in}
use Rattle.cad_evaluation.specs.Casts.{with_type}
use Rattle.cad_installations.specs.Code.Fitting.{come, fit_own, fit_tree, in_place, fit_found, no_more, ComesBefore}
use Rattle.cad_installations.specs.Views.{items_row, types_of}
use Rattle.cad_labels.specs.Laws.{AnyOne, Keeps}
use Rattle.cad_labels.proofs.Accounts.{type_keeps}
use Rattle.cad_labels.proofs.Forms.{keeps_fail, keeps_give, keeps_require}
use Rattle.cad_labels.proofs.Keeping.{keeps_bind}
use Rattle.cad_outcomes.proofs.Steps.{stops_on}
use Rattle.cad_outcomes.specs.Outcomes.{Gives, Stops}
use Rattle.cad_outcomes.specs.declared.stop.Stop.{Stop}
use Rattle.cad_outcomes.specs.declared.error.RunError.TheVariants.{ContractArguments}
use Rattle.cad_outcomes.specs.declared.stop.Stop.TheVariants.{Failed}
use Rattle.cad_rows.specs.Views.{PlaceView, vacant, taken, before, pure_place, pure_row, pure_tree}
use Rattle.cad_rows.specs.declared.tree.Place.{Place}
use Rattle.cad_rows.specs.declared.tree.Tree.{Tree as CodeTree}
use Rattle.cad_state.proofs.Finding.{find_given, find_same, find_stopped, find_then}
use Rattle.cad_state.specs.Views.{state_over, FindsAndCarriesOut}
use Rattle.cad_state.specs.declared.state.RunState.{RunState}
use Rattle.cad_syntax.specs.Types.{PureType, pure_type}
use Rattle.cad_syntax.specs.declared.types.CadType.{CadType}
use Rattle.cad_types.specs.Declarations.{Declaration}
use Rattle.cad_types.specs.Optionals.{fits}
use Rattle.cad_world.specs.OwnTypes.{own_type}
use Rattle.cad_world.specs.Rows.{Row, stop, gap, node, Tree, first, count_places, wedge}
use Rattle.cad_world.specs.State.{State, Outcome, ok, failed, bind, Action, ◌>>=◌, give, require, or_fail}
use Rattle.cad_world.specs.Transfers.{come_to}

-- ---- one argument

typed_cases : {A : Type 0} (o : Option PureType) (f : PureType → Action A) (s : State) → or_fail 113 o f s ≡ bind (or_fail 113 o (λ own. give own) s) f
typed_cases None f s = refl
typed_cases (Some own) f s = refl

-- the own type is asked first
pub typed_first : {A : Type 0} (t : Tree) (f : PureType → Action A) (s : State) → with_type t f s ≡ (with_type t (λ own. give own) >>= f) s
typed_first t f s = typed_cases (own_type s t) f s

type_told_keeps : (t : Tree) → Keeps AnyOne (with_type t (λ own. give own))
type_told_keeps t = type_keeps AnyOne t (λ own. give own) (λ own. keeps_give {A = PureType} AnyOne own tt)

pub fits_on : (k : List Declaration) (type : PureType) (t : Tree) (own : CadType) (x y : RunState) (r : Result CodeTree Stop)
    → FindsAndCarriesOut pure_type (with_type t (λ own. give own)) x y (Ok own) → Gives pure_tree (fit_own k type t (pure_type own)) r
    → FindsAndCarriesOut pure_tree (fit_tree k type t) x y r
fits_on k type t own x y r first second =
    find_same pure_tree (fit_tree k type t) (with_type t (λ own. give own) >>= fit_own k type t) x y r (λ w ready. typed_first t (fit_own k type t) (state_over w x))
    (find_then AnyOne (with_type t (λ own. give own)) (type_told_keeps t) pure_type pure_tree (fit_own k type t) own x y y r first (λ h. find_given pure_tree (fit_own k type t (pure_type own)) y r second))

pub type_stops : (k : List Declaration) (type : PureType) (t : Tree) (x y z : RunState) (why : Stop)
    → FindsAndCarriesOut pure_type (with_type t (λ own. give own)) x y (Err why) → FindsAndCarriesOut {B = CodeTree} pure_tree (fit_tree k type t) x z (Err why)
type_stops k type t x y z why first =
    find_same {B = CodeTree} pure_tree (fit_tree k type t) (with_type t (λ own. give own) >>= fit_own k type t) x z (Err why) (λ w ready. typed_first t (fit_own k type t) (state_over w x))
    (find_stopped {D = CodeTree} pure_type pure_tree (with_type t (λ own. give own)) (fit_own k type t) x y z why first)

pub fit_given : (k : List Declaration) (type : PureType) (t : Tree) (own : PureType) (r : Result CodeTree Stop) → fits k own type ≡ true → Gives pure_tree (come type t) r → Gives pure_tree (fit_own k type t own) r
fit_given k type t own r is h = subst (λ (b : Bool). Gives pure_tree (require 125 b (come type t)) r) (sym is) h

pub fit_refused : (k : List Declaration) (type : PureType) (t : Tree) (own : PureType) → fits k own type ≡ false → Gives {B = CodeTree} pure_tree (fit_own k type t own) (Err (Failed ContractArguments))
fit_refused k type t own is = subst (λ (b : Bool). Gives {B = CodeTree} pure_tree (require 125 b (come type t)) (Err (Failed ContractArguments))) (sym is) (λ s. refl)

pub nothing_fits : (k : List Declaration) (type : PureType) (o : Option Tree) (x z : RunState) → o ≡ None → FindsAndCarriesOut {B = CodeTree} pure_tree (fit_found k type o) x z (Err (Failed ContractArguments))
nothing_fits k type o x z is = subst (λ (p : Option Tree). FindsAndCarriesOut {B = CodeTree} pure_tree (fit_found k type p) x z (Err (Failed ContractArguments))) (sym is) (λ w ready. refl)

fit_found_keeps : (k : List Declaration) (type : PureType) (o : Option Tree) → Keeps AnyOne (fit_found k type o)
fit_found_keeps k type None = keeps_fail {A = Tree} AnyOne 125
fit_found_keeps k type (Some t) = type_keeps AnyOne t (fit_own k type t) (λ own. keeps_require AnyOne 125 (fits k own type) (come type t) (keeps_give {A = Tree} AnyOne (come_to type t) tt))

-- ---- all of them

-- the rest, and the value before it
abbrev pub placed_before : Action Row → Tree → Action Row
placed_before p t = p >>= (λ rest. give (first t rest))

fit_cases : (o : Option PureType) (b : PureType → Bool) (type : PureType) (t : Tree) (p : Action Row) (s : State)
    → or_fail 113 o (λ own. require 125 (b own) (placed_before p (come_to type t))) s ≡ bind (or_fail 113 o (λ own. require 125 (b own) (come type t)) s) (placed_before p)
fit_cases None b type t p s = refl
fit_cases (Some own) b type t p s = test_cases (b own) type t p s
  where
    test_cases : (x : Bool) (type : PureType) (t : Tree) (p : Action Row) (s : State) → require 125 x (placed_before p (come_to type t)) s ≡ bind (require 125 x (come type t) s) (placed_before p)
    test_cases true type t p s = refl
    test_cases false type t p s = refl

-- the first argument comes first
pub first_fits : (k : List Declaration) (type : PureType) (types : List PureType) (v : PlaceView) (r : Row) (s : State)
    → all_fitted k (type ∷ types) (before v r) s ≡ (fit_found k type (in_place v) >>= placed_before (all_fitted k types r)) s
first_fits k type types vacant r s = refl
first_fits k type types (taken l t) r s = fit_cases (own_type s t) (λ own. fits k own type) type t (all_fitted k types r) s

pub before_rest : (p : Action Row) (t : Tree) (y z : RunState) (rest result : Result (Vec Place Global) Stop)
    → FindsAndCarriesOut items_row p y z rest → ComesBefore t rest result → FindsAndCarriesOut items_row (placed_before p t) y z result
before_rest p t y z (Ok row) (Ok out) done is w ready = ap (λ (o : Outcome Row). bind o (λ rest. give (first t rest))) (done w ready) ∙ ap (λ q. ok q (state_over w z)) (sym is)
before_rest p t y z (Ok row) (Err why) done is w ready = subst (λ (k : Stop). Stops (placed_before p t (state_over w y)) k) (sym is) tt
before_rest p t y z (Err why) (Ok out) done is w ready = absurd is
before_rest p t y z (Err why) (Err because) done is w ready =
    subst (λ (k : Stop). Stops (placed_before p t (state_over w y)) k) (sym is) (stops_on (p (state_over w y)) (λ rest. give (first t rest)) why (done w ready))

-- it came to its parameter, and so did the rest, or didn't
pub fits_before : (k : List Declaration) (type : PureType) (types : List PureType) (place : Place) (left : List Place) (items : List Place) (own : CodeTree) (x y z : RunState) (rest result : Result (Vec Place Global) Stop)
    → items ≡ place ∷ left
    → FindsAndCarriesOut pure_tree (fit_found k type (in_place (pure_place place))) x y (Ok own) → FindsAndCarriesOut items_row (all_fitted k types (pure_row left)) y z rest
    → ComesBefore (pure_tree own) rest result → FindsAndCarriesOut items_row (all_fitted k (type ∷ types) (pure_row items)) x z result
fits_before k type types place left items own x y z rest result is one others comes =
    subst (λ (all : List Place). FindsAndCarriesOut items_row (all_fitted k (type ∷ types) (pure_row all)) x z result) (sym is)
    (find_same items_row (all_fitted k (type ∷ types) (before (pure_place place) (pure_row left))) (fit_found k type (in_place (pure_place place)) >>= placed_before (all_fitted k types (pure_row left))) x z result
    (λ w ready. first_fits k type types (pure_place place) (pure_row left) (state_over w x))
    (find_then AnyOne (fit_found k type (in_place (pure_place place))) (fit_found_keeps k type (in_place (pure_place place))) pure_tree items_row (placed_before (all_fitted k types (pure_row left))) own x y z result one
    (λ h. before_rest (all_fitted k types (pure_row left)) (pure_tree own) y z rest result others comes)))

pub first_stops : (k : List Declaration) (type : PureType) (types : List PureType) (place : Place) (left : List Place) (items : List Place) (x y z : RunState) (why : Stop)
    → items ≡ place ∷ left → FindsAndCarriesOut {B = CodeTree} pure_tree (fit_found k type (in_place (pure_place place))) x y (Err why)
    → FindsAndCarriesOut {B = Vec Place Global} items_row (all_fitted k (type ∷ types) (pure_row items)) x z (Err why)
first_stops k type types place left items x y z why is one =
    subst (λ (all : List Place). FindsAndCarriesOut {B = Vec Place Global} items_row (all_fitted k (type ∷ types) (pure_row all)) x z (Err why)) (sym is)
    (find_same {B = Vec Place Global} items_row (all_fitted k (type ∷ types) (before (pure_place place) (pure_row left))) (fit_found k type (in_place (pure_place place)) >>= placed_before (all_fitted k types (pure_row left))) x z (Err why)
    (λ w ready. first_fits k type types (pure_place place) (pure_row left) (state_over w x))
    (find_stopped {D = Vec Place Global} pure_tree items_row (fit_found k type (in_place (pure_place place))) (placed_before (all_fitted k types (pure_row left))) x y z why one))

wedged_first : (t : Tree) (r : Row) → wedge 0 t r ≡ first t r
wedged_first t stop = refl
wedged_first t (gap r) = refl
wedged_first t (node l n s k r) = refl

pub comes_first : (t : Tree) (rest : Result (Vec Place Global) Stop) (row out : Vec Place Global) → rest ≡ Ok row → pure_row out.items ≡ wedge 0 t (pure_row row.items) → ComesBefore t rest (Ok out)
comes_first t rest row out is put = subst (λ (q : Result (Vec Place Global) Stop). ComesBefore t q (Ok out)) (sym is) (put ∙ wedged_first t (pure_row row.items))

-- no parameter is left
pub none_left : (k : List Declaration) (r : Row) (s : State) → all_fitted k [] r s ≡ no_more r s
none_left k stop s = refl
none_left k (gap r) s = refl
none_left k (node l n sh parts r) s = refl

more_left : (items : List Place) (b : Bool) → b ≡ (length items == 0) → b ≡ false → (s : State) → no_more (pure_row items) s ≡ failed 125
more_left [] b is not_so s = absurd (false≢true (sym not_so ∙ is))
more_left (p ∷ items) b is not_so s = behind_place (pure_place p) (pure_row items) s
  where
    behind_place : (v : PlaceView) (r : Row) (s : State) → no_more (before v r) s ≡ failed 125
    behind_place vacant r s = refl
    behind_place (taken l t) r s = refl

-- an argument is left
pub too_many : (row : Vec Place Global) (b : Bool) → b ≡ (vec_len row == 0) → vec_len row ≡ length row.items → b ≡ false → (s : State) → no_more (pure_row row.items) s ≡ failed 125
too_many row b is counts not_so = more_left row.items b (is ∙ ap (λ n. n == 0) counts) not_so

pub none_wanted : (k : List Declaration) (types : List PureType) (r : Row) (x : RunState) (q : Result (Vec Place Global) Stop) → types ≡ [] → Gives items_row (no_more r) q
    → FindsAndCarriesOut items_row (all_fitted k types r) x x q
none_wanted k types r x q is h =
    subst (λ (ts : List PureType). FindsAndCarriesOut items_row (all_fitted k ts r) x x q) (sym is)
    (find_same items_row (all_fitted k [] r) (no_more r) x x q (λ w ready. none_left k r (state_over w x)) (find_given items_row (no_more r) x q h))

-- ---- parameters in a row

none_below : {X : Type 0} (xs : List X) → length xs < 1 → xs ≡ []
none_below [] lt = refl
none_below (x ∷ xs) lt = absurd (omega (arith, lt))

pub no_types : (all : List Parameter) → length all < 1 → types_of all ≡ []
no_types all lt = ap types_of (none_below all lt)

pub first_type : (all : List Parameter) (p : Parameter) → 1 ≤ length all → p ≡ get_or all 0 p → types_of all ≡ pure_type p.declared ∷ types_of (drop 1 all)
first_type [] p some is = absurd (omega (arith, some))
first_type (q ∷ all) p some is = ap (λ (o : Parameter). pure_type o.declared ∷ types_of all) (sym is)

pub told_parameters : (o : Option Signature) (s : Signature) (items : List Parameter) → o ≡ Some s → items ≡ s.parameters.items → types_of items ≡ parameters_in (option_map signature_of o)
told_parameters o s items is same = ap types_of same ∙ views s.parameters.items ∙ ap (λ (p : Option Signature). parameters_in (option_map signature_of p)) (sym is)
  where
    views : (all : List Parameter) → types_of all ≡ map (λ p. p.type) (map parameter_of all)
    views [] = refl
    views (p ∷ all) = ap (λ l. pure_type p.declared ∷ l) (views all)

pub counted_types : (all : List Parameter) → length (types_of all) ≡ length all
counted_types [] = refl
counted_types (p ∷ all) = ap suc (counted_types all)

pub as_many : (k : List Declaration) (types : List PureType) (r : Row) (x z : RunState) (q : Result (Vec Place Global) Stop) → (count_places r == length types) ≡ true
    → FindsAndCarriesOut items_row (all_fitted k types r) x z q → FindsAndCarriesOut items_row (fitted k types r) x z q
as_many k types r x z q is h = subst (λ (b : Bool). FindsAndCarriesOut items_row (require 125 b (all_fitted k types r)) x z q) (sym is) h

pub not_as_many : (k : List Declaration) (types : List PureType) (r : Row) (x z : RunState) → (count_places r == length types) ≡ false
    → FindsAndCarriesOut {B = Vec Place Global} items_row (fitted k types r) x z (Err (Failed ContractArguments))
not_as_many k types r x z is = subst (λ (b : Bool). FindsAndCarriesOut {B = Vec Place Global} items_row (require 125 b (all_fitted k types r)) x z (Err (Failed ContractArguments))) (sym is) (λ w ready. refl)

-- ---- what keeps the state

pub all_fitted_stay : (k : List Declaration) (types : List PureType) (r : Row) → Keeps AnyOne (all_fitted k types r)
all_fitted_stay k [] stop = keeps_give {A = Row} AnyOne stop tt
all_fitted_stay k (type ∷ types) (node l n s parts r) = type_keeps AnyOne (record { optionals = n; shape = s; parts = parts }) _ (λ own. keeps_require AnyOne 125 (fits k own type) _
    (keeps_bind AnyOne AnyOne (all_fitted k types r) (λ rest. give (first (come_to type (record { optionals = n; shape = s; parts = parts })) rest)) (all_fitted_stay k types r)
    (λ rest h. keeps_give {A = Row} AnyOne (first (come_to type (record { optionals = n; shape = s; parts = parts })) rest) tt)))
all_fitted_stay k types r = keeps_fail {A = Row} AnyOne 125

pub fitted_stay : (k : List Declaration) (types : List PureType) (r : Row) → Keeps AnyOne (fitted k types r)
fitted_stay k types r = keeps_require AnyOne 125 (count_places r == length types) (all_fitted k types r) (all_fitted_stay k types r)
