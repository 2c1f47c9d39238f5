-- The end of a resource: its events in order, by labels that have room, and what comes after them.
use Rattle.std.proofs.Common.{◌≡◌, ℕ, suc, ◌+◌, ◌<◌, ◌≤◌, List, [], ◌∷◌, ◌++◌, length, drop, get_or, refl, sym, ◌∙◌, ap, subst, append_assoc, arith, Result, Ok, Err}
use Rattle.std.proofs.lemmas.List.{append-nil, drop_all}
use Rattle.cad_syntax.specs.declared.type_id.TypeId.{TypeId}
use Rattle.cad_evaluation.specs.Callees.{Calls, destroyed_event}
use Rattle.cad_evaluation.specs.Containers.{void_tree}
use Rattle.cad_evaluation.specs.Ending.{emitted, all_emitted, events_of, set_aside}
use Rattle.cad_labels.specs.Laws.{CalleesKeep, HasNone}
use Rattle.cad_labels.proofs.Forms.{stop_none}
use Rattle.cad_making.specs.Dying.{Dying, laid_out, buried, end_of}
use Rattle.cad_making.specs.Laws.{told_and_buried}
use Rattle.cad_making.proofs.Destroying.{by_parts}
use Rattle.cad_outcomes.specs.declared.stop.Stop.{Stop}
use Rattle.cad_outcomes.specs.Outcomes.{no_value}
use Rattle.cad_rows.specs.declared.tree.Tree as code
use Rattle.cad_state.specs.Views.{state_over, CarriesOut, FindsAndCarriesOut}
use Rattle.cad_state.specs.declared.state.RunState.{RunState}
use Rattle.cad_state.proofs.Finding.{find_same, find_then, find_stopped}
use Rattle.cad_world.specs.Rows.{stop, Tree}
use Rattle.cad_world.specs.State.{State, Outcome, ok, failed, limit, ill, bind, Action, ◌>>=◌, ◌>>◌, give}
use Rattle.cad_world.specs.Transfers.{charged}
use Rattle.cad_expressions.specs.Code.Ending.{made_behind, told_and_gone, ended_from, HasEmitted}
use Rattle.cad_expression_leaves.specs.Code.Steps.{ended_by}
use Rattle.cad_expressions.proofs.Forms.{bind_assoc}
use Rattle.cad_expression_leaves.proofs.Going.{any_on, any_stopped}
use Rattle.cad_expressions.proofs.Turns.{cons_at}
use Rattle.cad_expression_leaves.specs.Views.{tree_in}
use Rattle.std.specs.Global.{Box}

-- ---- labels

-- the labels that a laying out gives lie before the next one
abbrev LieBefore : Outcome Dying → Type 0
LieBefore (ok d v) = d.first_label + length d.types ≡ v.next_label
LieBefore (failed e) = Unit {0}
LieBefore limit = Unit {0}
LieBefore ill = Unit {0}

lie_before : (t : Tree) (s : State) → LieBefore (laid_out t s)
lie_before t s = go (charged t s)
  where
    go : (o : Outcome (Unit {0})) → LieBefore (bind o (λ _ u. (set_aside t >> give (end_of u t)) u))
    go (ok x u) = refl
    go (failed e) = tt
    go limit = tt
    go ill = tt

pub labels_lie_before : (t : Tree) (s v : State) (d : Dying) → laid_out t s ≡ ok d v → d.first_label + length d.types ≡ v.next_label
labels_lie_before t s v d e = subst (λ (o : Outcome Dying). LieBefore o) e (lie_before t s)

-- ---- events that are made

behind_cases : (o : Outcome Tree) (done : List Tree) (p : Action (List Tree))
    → bind (bind o (λ e. p >>= (λ es. give (e ∷ es)))) (λ es. give (done ++ es)) ≡ bind o (λ e. p >>= (λ es. give (done ++ e ∷ [] ++ es)))
behind_cases (ok e s) done p = inner (p s)
  where
    inner : (o : Outcome (List Tree)) → bind (bind o (λ es. give (e ∷ es))) (λ es. give (done ++ es)) ≡ bind o (λ es. give (done ++ e ∷ [] ++ es))
    inner (ok es v) = ap (λ q. ok q v) (sym (append_assoc done (e ∷ []) es))
    inner (failed n) = refl
    inner limit = refl
    inner ill = refl
behind_cases (failed n) done p = refl
behind_cases limit done p = refl
behind_cases ill done p = refl

bare_cases : (o : Outcome (List Tree)) → bind o (λ es. give ([] ++ es)) ≡ o
bare_cases (ok es s) = refl
bare_cases (failed n) = refl
bare_cases limit = refl
bare_cases ill = refl

-- events from the beginning
pub begun_events : {D : Type 0} (p : Action (List Tree)) (view : D → List Tree) (d : D) (es empty : List Tree) (x y : RunState) → view d ≡ es → empty ≡ []
    → FindsAndCarriesOut (λ (u : Unit {0}). es) (made_behind empty p) x y (Ok tt) → FindsAndCarriesOut view p x y (Ok d)
begun_events p view d es empty x y is bare done w ready =
    sym (bare_cases (p (state_over w x))) ∙ ap (λ q. made_behind q p (state_over w x)) (sym bare) ∙ done w ready ∙ ap (λ q. ok q (state_over w y)) (sym is)

pub stopped_events : {D : Type 0} (p : Action (List Tree)) (view : D → List Tree) (es empty : List Tree) (why : Stop) (x y : RunState) → empty ≡ []
    → FindsAndCarriesOut (λ (u : Unit {0}). es) (made_behind empty p) x y (Err why) → FindsAndCarriesOut {B = D} view p x y (Err why)
stopped_events {D = D} p view es empty why x y bare done =
    find_same view p (made_behind empty p) x y (Err why) (λ w ready. sym (bare_cases (p (state_over w x))) ∙ ap (λ q. made_behind q p (state_over w x)) (sym bare)) done

module _ (calls : Calls) (keep : CalleesKeep calls) where
  event_same : (ids : List TypeId) (i : ℕ) (id : TypeId) → i < length ids → id ≡ get_or ids i id → (l : ℕ) (done : List Tree) (s : State)
      → made_behind done (events_of calls l (drop i ids)) s
      ≡ (calls (destroyed_event id l) stop >>= (λ e. made_behind (done ++ e ∷ []) (events_of calls (l + 1) (drop (i + 1) ids)))) s
  event_same ids i id h is l done s =
      let next : suc l ≡ l + 1 = omega arith in
      ap (λ z. made_behind done (events_of calls l z) s) (cons_at ids i id h is)
      ∙ behind_cases (calls (destroyed_event id l) stop s) done (events_of calls (suc l) (drop (i + 1) ids))
      ∙ ap (λ n. (calls (destroyed_event id l) stop >>= (λ e. made_behind (done ++ e ∷ []) (events_of calls n (drop (i + 1) ids)))) s) next

  pub events_turn : (ids : List TypeId) (i : ℕ) (id : TypeId) → i < length ids → id ≡ get_or ids i id → (l : ℕ) (done new : List Tree) (t : Box code.Tree) (x y z : RunState) (all : List Tree) (r : Result (Unit {0}) Stop)
      → FindsAndCarriesOut tree_in (calls (destroyed_event id l) stop) x y (Ok t) → new ≡ done ++ tree_in t ∷ []
      → FindsAndCarriesOut (λ (u : Unit {0}). all) (made_behind new (events_of calls (l + 1) (drop (i + 1) ids))) y z r
      → FindsAndCarriesOut (λ (u : Unit {0}). all) (made_behind done (events_of calls l (drop i ids))) x z r
  events_turn ids i id h is l done new t x y z all r first grown left =
      let rest : Tree → Action (List Tree) = λ e. made_behind (done ++ e ∷ []) (events_of calls (l + 1) (drop (i + 1) ids)) in
      find_same (λ (u : Unit {0}). all) (made_behind done (events_of calls l (drop i ids))) (calls (destroyed_event id l) stop >>= rest) x z r (λ w ready. event_same ids i id h is l done (state_over w x))
      (find_then HasNone (calls (destroyed_event id l) stop) (keep (destroyed_event id l) stop stop_none) tree_in (λ (u : Unit {0}). all) rest t x y z r first
      (λ none. subst (λ (q : List Tree). FindsAndCarriesOut (λ (u : Unit {0}). all) (made_behind q (events_of calls (l + 1) (drop (i + 1) ids))) y z r) grown left))

  pub events_stop : (ids : List TypeId) (i : ℕ) (id : TypeId) → i < length ids → id ≡ get_or ids i id → (l : ℕ) (done : List Tree) (x y z : RunState) (all : List Tree) (why : Stop)
      → FindsAndCarriesOut {B = Box code.Tree} tree_in (calls (destroyed_event id l) stop) x y (Err why)
      → FindsAndCarriesOut (λ (u : Unit {0}). all) (made_behind done (events_of calls l (drop i ids))) x z (Err why)
  events_stop ids i id h is l done x y z all why first =
      let rest : Tree → Action (List Tree) = λ e. made_behind (done ++ e ∷ []) (events_of calls (l + 1) (drop (i + 1) ids)) in
      find_same (λ (u : Unit {0}). all) (made_behind done (events_of calls l (drop i ids))) (calls (destroyed_event id l) stop >>= rest) x z (Err why) (λ w ready. event_same ids i id h is l done (state_over w x))
      (find_stopped {D = Unit {0}} tree_in (λ (u : Unit {0}). all) (calls (destroyed_event id l) stop) rest x y z why first)

  pub events_last : (ids : List TypeId) (i : ℕ) → length ids ≤ i → (l : ℕ) (done : List Tree) (x : RunState)
      → FindsAndCarriesOut (λ (u : Unit {0}). done) (made_behind done (events_of calls l (drop i ids))) x x (Ok tt)
  events_last ids i h l done x w ready =
      ap (λ z. made_behind done (events_of calls l z) (state_over w x)) (drop_all i ids h) ∙ ap (λ q. ok q (state_over w x)) (append-nil done)

-- ---- events that are emitted

-- one event more
pub next_emitted : (whole : Action (Unit {0})) (start : RunState) (t : Tree) (rest : List Tree) (x y : RunState) (before r : Result (Unit {0}) Stop)
    → before ≡ Ok tt → CarriesOut no_value (emitted t) x y r → HasEmitted whole start (t ∷ rest) x before → HasEmitted whole start rest y r
next_emitted whole start t rest x y before (Ok u) is done h = λ z r left.
    subst (λ (q : Result (Unit {0}) Stop). HasEmitted whole start (t ∷ rest) x q) is h z r (any_on (emitted t) no_value no_value (λ _. all_emitted rest) (Ok u) u x y z r refl done left)
next_emitted whole start t rest x y before (Err why) is done h = λ z.
    subst (λ (q : Result (Unit {0}) Stop). HasEmitted whole start (t ∷ rest) x q) is h z (Err why) (any_stopped {D = Unit {0}} (emitted t) no_value no_value (λ _. all_emitted rest) (Err why) why x y z refl done)

-- emission stopped before
pub none_emitted : (whole : Action (Unit {0})) (start : RunState) (all rest : List Tree) (x y : RunState) (before : Result (Unit {0}) Stop) (why : Stop)
    → before ≡ Err why → HasEmitted whole start all x before → HasEmitted whole start rest y (Err why)
none_emitted whole start all rest x y before why is h = subst (λ (q : Result (Unit {0}) Stop). HasEmitted whole start all x q) is h

-- all are emitted
pub emission_ends : (whole : Action (Unit {0})) (start : RunState) (rest : List Tree) (x : RunState) (r : Result (Unit {0}) Stop)
    → rest ≡ [] → HasEmitted whole start rest x r → CarriesOut no_value whole start x r
emission_ends whole start rest x (Ok u) none h = h x (Ok u) (subst (λ (q : List Tree). CarriesOut {B = Unit {0}} no_value (all_emitted q) x x (Ok u)) (sym none) (λ w. refl))
emission_ends whole start rest x (Err why) none h = h x

-- ---- the whole

ended_cases : (calls : Calls) (o : Outcome Dying) → bind (bind o (λ d. told_and_buried calls d)) (λ _. give void_tree) ≡ bind o (λ d. ended_from calls d)
unfolding ended_from told_and_gone
ended_cases calls (ok d s) = made (events_of calls d.first_label d.types s)
  where
    made : (o : Outcome (List Tree)) → bind (bind o (λ es. all_emitted es >> buried d)) (λ _. give void_tree) ≡ bind o (λ es. all_emitted es >> (buried d >> give void_tree))
    made (ok es v) = bind_assoc (all_emitted es v) (λ _. buried d) (λ _. give void_tree)
    made (failed n) = refl
    made limit = refl
    made ill = refl
ended_cases calls (failed n) = refl
ended_cases calls limit = refl
ended_cases calls ill = refl

pub ended_same : (calls : Calls) (t : Tree) (s : State) → ended_by calls t s ≡ (laid_out t >>= ended_from calls) s
unfolding ended_by
ended_same calls t s = ap (λ o. bind o (λ _. give void_tree)) (by_parts calls t s) ∙ ended_cases calls (laid_out t s)
