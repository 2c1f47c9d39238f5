-- Turns of the loops that evaluate elements, arguments and entries.
use Rattle.std.proofs.Common.{◌≡◌, ℕ, ◌+◌, ◌<◌, ◌≤◌, List, ◌∷◌, length, drop, get_or, map, refl, sym, ◌∙◌, ap, add-one, drop-cons, Result, Ok, Err, rules}
use Rattle.cad_declarations.specs.declared.term.Place.TheViews.{the_lemmas}
use Rattle.cad_declarations.specs.declared.term.Place.TheFolds.{fold_out-Argument}
use Rattle.std.proofs.lemmas.List.{drop_all}
use Rattle.std.specs.Global.{Box}
use Rattle.cad_syntax.specs.Types.{PureType, pure_type}
use Rattle.cad_declarations.specs.Typed as e
use Rattle.cad_declarations.specs.Views.{term_of, argument_of}
use Rattle.cad_declarations.specs.declared.term.Term.{Term}
use Rattle.cad_declarations.specs.declared.term.Argument.{Argument}
use Rattle.cad_evaluation.specs.Callees.{Calls, Front}
use Rattle.cad_evaluation.specs.Terms.{eval, eval_terms, eval_arguments}
use Rattle.cad_labels.specs.Laws.{AnyOne, CalleesKeep, HasNone, Keeps}
use Rattle.cad_labels.proofs.Forms.{keeps_give}
use Rattle.cad_labels.proofs.Keeping.{keeps_bind}
use Rattle.cad_labels.proofs.Places.{transferred_keeps}
use Rattle.cad_outcomes.specs.declared.stop.Stop.{Stop}
use Rattle.cad_rows.proofs.CopyLaws.{join_stop}
use Rattle.cad_rows.specs.declared.tree.Tree as code
use Rattle.cad_state.specs.Views.{state_over, FindsAndCarriesOut}
use Rattle.cad_state.specs.declared.state.RunState.{RunState}
use Rattle.cad_state.proofs.Finding.{find_same, find_then, find_stopped}
use Rattle.cad_world.specs.Rows.{Row, stop, gap, node, first, join, add_last, Tree}
use Rattle.cad_world.specs.State.{State, Outcome, ok, failed, limit, ill, bind, Action, ◌>>=◌, give}
use Rattle.cad_world.specs.Transfers.{transferred}
use Rattle.cad_expression_leaves.specs.Code.Steps.{GoesOn, evaluated, elements, arguments, behind, row_with}
use Rattle.cad_expression_leaves.specs.Views.{tree_in}
use Rattle.cad_expressions.proofs.Forms.{evaluated_keeps}

-- what stands at an index, before the rest
pub cons_at : {A : Type 0} (es : List A) (i : ℕ) (e : A) → i < length es → e ≡ get_or es i e → drop i es ≡ e ∷ drop (i + 1) es
cons_at es i e h is = (let p : drop i es ≡ get_or es i e ∷ drop (i + 1) es = rw (add-one, drop-cons es i e) refl in p) ∙ ap (λ z. z ∷ drop (i + 1) es) (sym is)

join_one : (done : Row) (t : Tree) (r : Row) → join done (first t r) ≡ join (add_last t done) r
join_one stop t r = refl
join_one (gap q) t r = ap gap (join_one q t r)
join_one (node l n s k q) t r = ap (node l n s k) (join_one q t r)

row_with_keeps : (type : PureType) (done : Row) (t : Tree) → HasNone t → Keeps AnyOne (row_with type done t)
unfolding row_with
row_with_keeps type done t none = keeps_bind HasNone AnyOne (transferred type t) (λ own. give (add_last own done)) (transferred_keeps type t none) (λ own h. keeps_give {A = Row} AnyOne (add_last own done) tt)

-- a value comes first, and the rest behind it
row_cases : (o : Outcome Tree) (type : PureType) (done : Row) (p : Action Row)
    → bind (bind (bind o (transferred type)) (λ t. p >>= (λ r. give (first t r)))) (λ r. give (join done r))
    ≡ bind (bind o (λ t. transferred type t >>= (λ own. give (add_last own done)))) (λ d. p >>= (λ r. give (join d r)))
row_cases (ok t s) type done p = inner (transferred type t s)
  where
    last : (own : Tree) (o : Outcome Row) → bind (bind o (λ r. give (first own r))) (λ r. give (join done r)) ≡ bind o (λ r. give (join (add_last own done) r))
    last own (ok r s) = ap (λ q. ok q s) (join_one done own r)
    last own (failed n) = refl
    last own limit = refl
    last own ill = refl

    inner : (o : Outcome Tree) → bind (bind o (λ t. p >>= (λ r. give (first t r)))) (λ r. give (join done r)) ≡ bind (bind o (λ own. give (add_last own done))) (λ d. p >>= (λ r. give (join d r)))
    inner (ok own s) = last own (p s)
    inner (failed n) = refl
    inner limit = refl
    inner ill = refl
row_cases (failed n) type done p = refl
row_cases limit type done p = refl
row_cases ill type done p = refl

bare_cases : (o : Outcome Row) → bind o (λ r. give (join stop r)) ≡ o
bare_cases (ok r s) = refl
bare_cases (failed n) = refl
bare_cases limit = refl
bare_cases ill = refl

-- a row from its beginning
pub begun_row : {D : Type 0} (p : Action Row) (view : D → Row) (d : D) (r empty : Row) (x y : RunState) → view d ≡ r → empty ≡ stop
    → FindsAndCarriesOut (λ (u : Unit {0}). r) (behind empty p) x y (Ok tt) → FindsAndCarriesOut view p x y (Ok d)
begun_row p view d r empty x y is bare done w ready =
    sym (bare_cases (p (state_over w x))) ∙ ap (λ q. behind q p (state_over w x)) (sym bare) ∙ done w ready ∙ ap (λ q. ok q (state_over w y)) (sym is)

pub stopped_row : {D : Type 0} (p : Action Row) (view : D → Row) (r empty : Row) (why : Stop) (x y : RunState) → empty ≡ stop
    → FindsAndCarriesOut (λ (u : Unit {0}). r) (behind empty p) x y (Err why) → FindsAndCarriesOut {B = D} view p x y (Err why)
stopped_row {D = D} p view r empty why x y bare done =
    find_same view p (behind empty p) x y (Err why) (λ w ready. sym (bare_cases (p (state_over w x))) ∙ ap (λ q. behind q p (state_over w x)) (sym bare)) done

argument_is : (a : Argument) → argument_of a ≡ record { value = term_of a.value; target = pure_type a.target }
argument_is a = search (rules, the_lemmas, fold_out-Argument)

module _ (front : Front) (calls : Calls) (keep : CalleesKeep calls) where
  elements_is : (type : PureType) (a : e.TermTree) (es : e.Terms) (done : Row) (s : State)
      → behind done (elements front calls type (e.terms a es)) s ≡ ((evaluated front calls a >>= row_with type done) >>= (λ d. behind d (elements front calls type es))) s
  unfolding elements evaluated row_with
  elements_is type a es done s = row_cases (eval front calls a s) type done (eval_terms front calls type es)

  arguments_is : (a : e.TermTree) (type : PureType) (all : e.Arguments) (done : Row) (s : State)
      → behind done (arguments front calls (e.arguments a type all)) s ≡ ((evaluated front calls a >>= row_with type done) >>= (λ d. behind d (arguments front calls all))) s
  unfolding arguments evaluated row_with
  arguments_is a type all done s = row_cases (eval front calls a s) type done (eval_arguments front calls all)

  pub elements_last : (type : PureType) (es : List Term) (i : ℕ) → length es ≤ i → (done : Row) (x : RunState)
      → FindsAndCarriesOut (λ (u : Unit {0}). done) (behind done (elements front calls type (e.terms_of (map term_of (drop i es))))) x x (Ok tt)
  unfolding elements
  elements_last type es i h done x w ready =
      ap (λ z. behind done (eval_terms front calls type (e.terms_of (map term_of z))) (state_over w x)) (drop_all i es h) ∙ ap (λ q. ok q (state_over w x)) (join_stop done)

  pub arguments_last : (all : List Argument) (i : ℕ) → length all ≤ i → (done : Row) (x : RunState)
      → FindsAndCarriesOut (λ (u : Unit {0}). done) (behind done (arguments front calls (e.arguments_of (map argument_of (drop i all))))) x x (Ok tt)
  unfolding arguments
  arguments_last all i h done x w ready =
      ap (λ z. behind done (eval_arguments front calls (e.arguments_of (map argument_of z))) (state_over w x)) (drop_all i all h) ∙ ap (λ q. ok q (state_over w x)) (join_stop done)

  pushed : (t : e.TermTree) (type : PureType) (done new : Row) (rest : Row → Action Row) (whole : Action Row) (x y z v : RunState) (found : Result (Box code.Tree) Stop) (rs : Row) (r : Result (Unit {0}) Stop)
      → ((s : State) → whole s ≡ ((evaluated front calls t >>= row_with type done) >>= rest) s)
      → FindsAndCarriesOut tree_in (evaluated front calls t) x y found → GoesOn HasNone tree_in (λ (u : Unit {0}). new) (row_with type done) found y z (Ok tt)
      → FindsAndCarriesOut (λ (u : Unit {0}). rs) (rest new) z v r → FindsAndCarriesOut (λ (u : Unit {0}). rs) whole x v r
  pushed t type done new rest whole x y z v found rs r same first push left =
      find_same (λ (u : Unit {0}). rs) whole ((evaluated front calls t >>= row_with type done) >>= rest) x v r (λ w ready. same (state_over w x))
      (find_then AnyOne (evaluated front calls t >>= row_with type done)
      (keeps_bind HasNone AnyOne (evaluated front calls t) (row_with type done) (evaluated_keeps front calls t keep) (row_with_keeps type done))
      (λ (u : Unit {0}). new) (λ (u : Unit {0}). rs) rest tt x z v r (push.goes x (evaluated front calls t) (evaluated_keeps front calls t keep) first) (λ h. left))

  refused : (t : e.TermTree) (type : PureType) (done new : Row) (rest : Row → Action Row) (whole : Action Row) (x y z v : RunState) (found : Result (Box code.Tree) Stop) (rs : Row) (why : Stop)
      → ((s : State) → whole s ≡ ((evaluated front calls t >>= row_with type done) >>= rest) s)
      → FindsAndCarriesOut tree_in (evaluated front calls t) x y found → GoesOn HasNone tree_in (λ (u : Unit {0}). new) (row_with type done) found y z (Err why)
      → FindsAndCarriesOut (λ (u : Unit {0}). rs) whole x v (Err why)
  refused t type done new rest whole x y z v found rs why same first push =
      find_same (λ (u : Unit {0}). rs) whole ((evaluated front calls t >>= row_with type done) >>= rest) x v (Err why) (λ w ready. same (state_over w x))
      (find_stopped {D = Unit {0}} (λ (u : Unit {0}). new) (λ (u : Unit {0}). rs) (evaluated front calls t >>= row_with type done) rest x z v why
      (push.goes x (evaluated front calls t) (evaluated_keeps front calls t keep) first))

  element_same : (type : PureType) (es : List Term) (i : ℕ) (a : Term) → i < length es → a ≡ get_or es i a → (done : Row) (s : State)
      → behind done (elements front calls type (e.terms_of (map term_of (drop i es)))) s
      ≡ ((evaluated front calls (term_of a) >>= row_with type done) >>= (λ d. behind d (elements front calls type (e.terms_of (map term_of (drop (i + 1) es)))))) s
  element_same type es i a h is done s =
      ap (λ z. behind done (elements front calls type (e.terms_of (map term_of z))) s) (cons_at es i a h is) ∙ elements_is type (term_of a) (e.terms_of (map term_of (drop (i + 1) es))) done s

  pub elements_turn : (type : PureType) (es : List Term) (i : ℕ) (a : Term) → i < length es → a ≡ get_or es i a → (done new : Row) (x y z v : RunState) (found : Result (Box code.Tree) Stop) (rs : Row) (r : Result (Unit {0}) Stop)
      → FindsAndCarriesOut tree_in (evaluated front calls (term_of a)) x y found → GoesOn HasNone tree_in (λ (u : Unit {0}). new) (row_with type done) found y z (Ok tt)
      → FindsAndCarriesOut (λ (u : Unit {0}). rs) (behind new (elements front calls type (e.terms_of (map term_of (drop (i + 1) es))))) z v r
      → FindsAndCarriesOut (λ (u : Unit {0}). rs) (behind done (elements front calls type (e.terms_of (map term_of (drop i es))))) x v r
  elements_turn type es i a h is done new x y z v found rs r first push left =
      pushed (term_of a) type done new (λ d. behind d (elements front calls type (e.terms_of (map term_of (drop (i + 1) es))))) _ x y z v found rs r (element_same type es i a h is done) first push left

  pub elements_stop : (type : PureType) (es : List Term) (i : ℕ) (a : Term) → i < length es → a ≡ get_or es i a → (done new : Row) (x y z v : RunState) (found : Result (Box code.Tree) Stop) (rs : Row) (why : Stop)
      → FindsAndCarriesOut tree_in (evaluated front calls (term_of a)) x y found → GoesOn HasNone tree_in (λ (u : Unit {0}). new) (row_with type done) found y z (Err why)
      → FindsAndCarriesOut (λ (u : Unit {0}). rs) (behind done (elements front calls type (e.terms_of (map term_of (drop i es))))) x v (Err why)
  elements_stop type es i a h is done new x y z v found rs why first push =
      refused (term_of a) type done new (λ d. behind d (elements front calls type (e.terms_of (map term_of (drop (i + 1) es))))) _ x y z v found rs why (element_same type es i a h is done) first push

  argument_same : (es : List Argument) (i : ℕ) (a : Argument) → i < length es → a ≡ get_or es i a → (done : Row) (s : State)
      → behind done (arguments front calls (e.arguments_of (map argument_of (drop i es)))) s
      ≡ ((evaluated front calls (term_of a.value) >>= row_with (pure_type a.target) done) >>= (λ d. behind d (arguments front calls (e.arguments_of (map argument_of (drop (i + 1) es)))))) s
  argument_same es i a h is done s =
      ap (λ z. behind done (arguments front calls (e.arguments_of (map argument_of z))) s) (cons_at es i a h is)
      ∙ ap (λ (z : e.TargetedTerm). behind done (arguments front calls (e.arguments z.value z.target (e.arguments_of (map argument_of (drop (i + 1) es))))) s) (argument_is a)
      ∙ arguments_is (term_of a.value) (pure_type a.target) (e.arguments_of (map argument_of (drop (i + 1) es))) done s

  pub arguments_turn : (es : List Argument) (i : ℕ) (a : Argument) → i < length es → a ≡ get_or es i a → (done new : Row) (x y z v : RunState) (found : Result (Box code.Tree) Stop) (rs : Row) (r : Result (Unit {0}) Stop)
      → FindsAndCarriesOut tree_in (evaluated front calls (term_of a.value)) x y found → GoesOn HasNone tree_in (λ (u : Unit {0}). new) (row_with (pure_type a.target) done) found y z (Ok tt)
      → FindsAndCarriesOut (λ (u : Unit {0}). rs) (behind new (arguments front calls (e.arguments_of (map argument_of (drop (i + 1) es))))) z v r
      → FindsAndCarriesOut (λ (u : Unit {0}). rs) (behind done (arguments front calls (e.arguments_of (map argument_of (drop i es))))) x v r
  arguments_turn es i a h is done new x y z v found rs r first push left =
      pushed (term_of a.value) (pure_type a.target) done new (λ d. behind d (arguments front calls (e.arguments_of (map argument_of (drop (i + 1) es))))) _ x y z v found rs r (argument_same es i a h is done) first push left

  pub arguments_stop : (es : List Argument) (i : ℕ) (a : Argument) → i < length es → a ≡ get_or es i a → (done new : Row) (x y z v : RunState) (found : Result (Box code.Tree) Stop) (rs : Row) (why : Stop)
      → FindsAndCarriesOut tree_in (evaluated front calls (term_of a.value)) x y found → GoesOn HasNone tree_in (λ (u : Unit {0}). new) (row_with (pure_type a.target) done) found y z (Err why)
      → FindsAndCarriesOut (λ (u : Unit {0}). rs) (behind done (arguments front calls (e.arguments_of (map argument_of (drop i es))))) x v (Err why)
  arguments_stop es i a h is done new x y z v found rs why first push =
      refused (term_of a.value) (pure_type a.target) done new (λ d. behind d (arguments front calls (e.arguments_of (map argument_of (drop (i + 1) es))))) _ x y z v found rs why (argument_same es i a h is done) first push
