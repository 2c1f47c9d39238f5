-- Turns of the loop that evaluates the entries of a dictionary literal.
use Rattle.std.proofs.Common.{◌≡◌, ℕ, ◌+◌, ◌<◌, ◌≤◌, List, [], ◌∷◌, ◌++◌, length, drop, get_or, map, refl, sym, ◌∙◌, ap, append_assoc, Result, Ok, Err, rules}
use Rattle.cad_declarations.specs.declared.term.Place.TheViews.{the_lemmas}
use Rattle.cad_declarations.specs.declared.term.Place.TheFolds.{fold_out-TermEntry}
use Rattle.std.proofs.lemmas.List.{append-nil, drop_all}
use Rattle.std.specs.Global.{Box}
use Rattle.cad_syntax.specs.Types.{PureType}
use Rattle.cad_declarations.specs.Typed as e
use Rattle.cad_declarations.specs.Views.{term_of, pair_of}
use Rattle.cad_declarations.specs.declared.term.TermEntry.{TermEntry}
use Rattle.cad_evaluation.specs.Callees.{Calls, Front}
use Rattle.cad_evaluation.specs.Terms.{eval, eval_entries}
use Rattle.cad_evaluation.specs.Uses.{Pair}
use Rattle.cad_labels.specs.Laws.{AnyOne, CalleesKeep, HasNone, Keeps}
use Rattle.cad_labels.proofs.Forms.{keeps_give}
use Rattle.cad_labels.proofs.Keeping.{keeps_bind}
use Rattle.cad_labels.proofs.Places.{transferred_keeps}
use Rattle.cad_outcomes.specs.declared.stop.Stop.{Stop}
use Rattle.cad_rows.specs.declared.tree.Tree as code
use Rattle.cad_state.specs.Views.{state_over, FindsAndCarriesOut}
use Rattle.cad_state.specs.declared.state.RunState.{RunState}
use Rattle.cad_state.proofs.Finding.{find_same, find_then, find_stopped}
use Rattle.cad_world.specs.Rows.{Tree}
use Rattle.cad_world.specs.State.{State, Outcome, ok, failed, limit, ill, bind, Action, ◌>>=◌, give}
use Rattle.cad_world.specs.Transfers.{transferred}
use Rattle.cad_expression_leaves.specs.Code.Steps.{GoesOn, after, entries, evaluated, pair_of as appended, pair_with, typed}
use Rattle.cad_expression_leaves.specs.Views.{tree_in}
use Rattle.cad_expressions.proofs.Forms.{evaluated_keeps}
use Rattle.cad_expressions.proofs.Turns.{cons_at}

bare_cases : (o : Outcome (List Pair)) → bind o (λ ps. give ([] ++ ps)) ≡ o
bare_cases (ok ps s) = refl
bare_cases (failed n) = refl
bare_cases limit = refl
bare_cases ill = refl

-- pairs from their beginning
pub begun_pairs : {D : Type 0} (p : Action (List Pair)) (view : D → List Pair) (d : D) (ps empty : List Pair) (x y : RunState) → view d ≡ ps → empty ≡ []
    → FindsAndCarriesOut (λ (u : Unit {0}). ps) (after empty p) x y (Ok tt) → FindsAndCarriesOut view p x y (Ok d)
begun_pairs p view d ps empty x y is bare done w ready =
    sym (bare_cases (p (state_over w x))) ∙ ap (λ q. after q p (state_over w x)) (sym bare) ∙ done w ready ∙ ap (λ q. ok q (state_over w y)) (sym is)

pub stopped_pairs : {D : Type 0} (p : Action (List Pair)) (view : D → List Pair) (ps empty : List Pair) (why : Stop) (x y : RunState) → empty ≡ []
    → FindsAndCarriesOut (λ (u : Unit {0}). ps) (after empty p) x y (Err why) → FindsAndCarriesOut {B = D} view p x y (Err why)
stopped_pairs {D = D} p view ps empty why x y bare done =
    find_same view p (after empty p) x y (Err why) (λ w ready. sym (bare_cases (p (state_over w x))) ∙ ap (λ q. after q p (state_over w x)) (sym bare)) done

entry_is : (a : TermEntry) → pair_of a ≡ record { key = term_of a.key; value = term_of a.value }
entry_is a = search (rules, the_lemmas, fold_out-TermEntry)

last_cases : (pair : Pair) (pairs : List Pair) (o : Outcome (List Pair))
    → bind (bind o (λ ps. give (pair ∷ ps))) (λ ps. give (pairs ++ ps)) ≡ bind o (λ ps. give ((pairs ++ pair ∷ []) ++ ps))
last_cases pair pairs (ok ps s) = ap (λ q. ok q s) (sym (append_assoc pairs (pair ∷ []) ps))
last_cases pair pairs (failed n) = refl
last_cases pair pairs limit = refl
last_cases pair pairs ill = refl

value_cases : (key : Tree) (pairs : List Pair) (o : Outcome Tree) (p : Action (List Pair))
    → bind (bind o (λ t. p >>= (λ ps. give (record { key = key; value = t } ∷ ps)))) (λ ps. give (pairs ++ ps))
    ≡ bind (bind o (λ t. give (pairs ++ record { key = key; value = t } ∷ []))) (λ ps. p >>= (λ qs. give (ps ++ qs)))
value_cases key pairs (ok t s) p = last_cases (record { key = key; value = t }) pairs (p s)
value_cases key pairs (failed n) p = refl
value_cases key pairs limit p = refl
value_cases key pairs ill p = refl

-- a key and its value come first, and the rest behind them
entry_cases : (pairs : List Pair) (o : Outcome Tree) (q : Action Tree) (p : Action (List Pair))
    → bind (bind o (λ k. q >>= (λ t. p >>= (λ ps. give (record { key = k; value = t } ∷ ps))))) (λ ps. give (pairs ++ ps))
    ≡ bind (bind o (λ k. q >>= (λ t. give (pairs ++ record { key = k; value = t } ∷ [])))) (λ ps. p >>= (λ qs. give (ps ++ qs)))
entry_cases pairs (ok k s) q p = value_cases k pairs (q s) p
entry_cases pairs (failed n) q p = refl
entry_cases pairs limit q p = refl
entry_cases pairs ill q p = refl

module _ (front : Front) (calls : Calls) (keep : CalleesKeep calls) where
  pub typed_keeps : (type : PureType) (t : e.TermTree) → Keeps HasNone (typed front calls type t)
  unfolding typed
  typed_keeps type t = keeps_bind HasNone HasNone (evaluated front calls t) (transferred type) (evaluated_keeps front calls t keep) (λ v none. transferred_keeps type v none)

  pair_with_keeps : (type : PureType) (b : e.TermTree) (pairs : List Pair) (k : Tree) → Keeps AnyOne (pair_with front calls type b pairs k)
  unfolding pair_with appended
  pair_with_keeps type b pairs k = keeps_bind HasNone AnyOne (typed front calls type b) (λ t. give (pairs ++ record { key = k; value = t } ∷ [])) (typed_keeps type b)
      (λ t none. keeps_give {A = List Pair} AnyOne (pairs ++ record { key = k; value = t } ∷ []) tt)

  entries_is : (key value : PureType) (a b : e.TermTree) (es : e.TermEntries) (pairs : List Pair) (s : State)
      → after pairs (entries front calls key value (e.entries a b es)) s
      ≡ ((typed front calls key a >>= pair_with front calls value b pairs) >>= (λ ps. after ps (entries front calls key value es))) s
  unfolding entries evaluated typed pair_with appended
  entries_is key value a b es pairs s = entry_cases pairs (bind (eval front calls a s) (transferred key)) (eval front calls b >>= transferred value) (eval_entries front calls key value es)

  pub entries_last : (key value : PureType) (es : List TermEntry) (i : ℕ) → length es ≤ i → (pairs : List Pair) (x : RunState)
      → FindsAndCarriesOut (λ (u : Unit {0}). pairs) (after pairs (entries front calls key value (e.entries_of (map pair_of (drop i es))))) x x (Ok tt)
  unfolding entries
  entries_last key value es i h pairs x w ready =
      ap (λ z. after pairs (eval_entries front calls key value (e.entries_of (map pair_of z))) (state_over w x)) (drop_all i es h) ∙ ap (λ q. ok q (state_over w x)) (append-nil pairs)

  entry_same : (key value : PureType) (es : List TermEntry) (i : ℕ) (a : TermEntry) → i < length es → a ≡ get_or es i a → (pairs : List Pair) (s : State)
      → after pairs (entries front calls key value (e.entries_of (map pair_of (drop i es)))) s
      ≡ ((typed front calls key (term_of a.key) >>= pair_with front calls value (term_of a.value) pairs) >>= (λ ps. after ps (entries front calls key value (e.entries_of (map pair_of (drop (i + 1) es)))))) s
  entry_same key value es i a h is pairs s =
      ap (λ z. after pairs (entries front calls key value (e.entries_of (map pair_of z))) s) (cons_at es i a h is)
      ∙ ap (λ (z : e.TermPair). after pairs (entries front calls key value (e.entries z.key z.value (e.entries_of (map pair_of (drop (i + 1) es))))) s) (entry_is a)
      ∙ entries_is key value (term_of a.key) (term_of a.value) (e.entries_of (map pair_of (drop (i + 1) es))) pairs s

  entry_keeps : (key value : PureType) (a b : e.TermTree) (pairs : List Pair) → Keeps AnyOne (typed front calls key a >>= pair_with front calls value b pairs)
  entry_keeps key value a b pairs = keeps_bind HasNone AnyOne (typed front calls key a) (pair_with front calls value b pairs) (typed_keeps key a) (λ k none. pair_with_keeps value b pairs k)

  pub entries_turn : (key value : PureType) (es : List TermEntry) (i : ℕ) (a : TermEntry) → i < length es → a ≡ get_or es i a → (pairs new : List Pair) (x y z v : RunState) (own : Result (Box code.Tree) Stop) (ps : List Pair) (r : Result (Unit {0}) Stop)
      → FindsAndCarriesOut tree_in (typed front calls key (term_of a.key)) x y own → GoesOn HasNone tree_in (λ (u : Unit {0}). new) (pair_with front calls value (term_of a.value) pairs) own y z (Ok tt)
      → FindsAndCarriesOut (λ (u : Unit {0}). ps) (after new (entries front calls key value (e.entries_of (map pair_of (drop (i + 1) es))))) z v r
      → FindsAndCarriesOut (λ (u : Unit {0}). ps) (after pairs (entries front calls key value (e.entries_of (map pair_of (drop i es))))) x v r
  entries_turn key value es i a h is pairs new x y z v own ps r first push left =
      let one : Action (List Pair) = typed front calls key (term_of a.key) >>= pair_with front calls value (term_of a.value) pairs in
      let rest : List Pair → Action (List Pair) = λ qs. after qs (entries front calls key value (e.entries_of (map pair_of (drop (i + 1) es)))) in
      find_same (λ (u : Unit {0}). ps) (after pairs (entries front calls key value (e.entries_of (map pair_of (drop i es))))) (one >>= rest) x v r (λ w ready. entry_same key value es i a h is pairs (state_over w x))
      (find_then AnyOne one (entry_keeps key value (term_of a.key) (term_of a.value) pairs) (λ (u : Unit {0}). new) (λ (u : Unit {0}). ps) rest tt x z v r
      (push.goes x (typed front calls key (term_of a.key)) (typed_keeps key (term_of a.key)) first) (λ h. left))

  pub entries_stop : (key value : PureType) (es : List TermEntry) (i : ℕ) (a : TermEntry) → i < length es → a ≡ get_or es i a → (pairs new : List Pair) (x y z v : RunState) (own : Result (Box code.Tree) Stop) (ps : List Pair) (why : Stop)
      → FindsAndCarriesOut tree_in (typed front calls key (term_of a.key)) x y own → GoesOn HasNone tree_in (λ (u : Unit {0}). new) (pair_with front calls value (term_of a.value) pairs) own y z (Err why)
      → FindsAndCarriesOut (λ (u : Unit {0}). ps) (after pairs (entries front calls key value (e.entries_of (map pair_of (drop i es))))) x v (Err why)
  entries_stop key value es i a h is pairs new x y z v own ps why first push =
      let one : Action (List Pair) = typed front calls key (term_of a.key) >>= pair_with front calls value (term_of a.value) pairs in
      let rest : List Pair → Action (List Pair) = λ qs. after qs (entries front calls key value (e.entries_of (map pair_of (drop (i + 1) es)))) in
      find_same (λ (u : Unit {0}). ps) (after pairs (entries front calls key value (e.entries_of (map pair_of (drop i es))))) (one >>= rest) x v (Err why) (λ w ready. entry_same key value es i a h is pairs (state_over w x))
      (find_stopped {D = Unit {0}} (λ (u : Unit {0}). new) (λ (u : Unit {0}). ps) one rest x z v why
      (push.goes x (typed front calls key (term_of a.key)) (typed_keeps key (term_of a.key)) first))
