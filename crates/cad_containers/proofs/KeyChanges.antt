-- What is done with the dictionary with a label.
use Rattle.std.proofs.Common.{◌≡◌, ℕ, suc, nat_le, Bool, true, false, [], ◌∷◌, ◌++◌, Option, Some, None, option_map, refl, sym, ap, ◌∙◌, subst}
use Rattle.std.specs.Prelude.{Result, Ok, Err}
use Rattle.cad_syntax.specs.Types.{PureType}
use Rattle.cad_values.specs.Fits.{most_elements}
use Rattle.cad_values.specs.Values.{PureValue}
use Rattle.cad_evaluation.specs.Arguments.{argument, with_arguments}
use Rattle.cad_evaluation.specs.Containers as spec
use Rattle.cad_nodes.specs.Keys.{with_key, without_key}
use Rattle.cad_outcomes.specs.Outcomes.{Does, Stops, no_value}
use Rattle.cad_outcomes.specs.declared.stop.Stop.{Stop}
use Rattle.cad_rows.specs.Places.{bare_in}
use Rattle.cad_rows.specs.Views.{pure_tree}
use Rattle.cad_rows.specs.declared.tree.Tree as code
use Rattle.cad_state.specs.Views.{state_over, FindsAndCarriesOut}
use Rattle.cad_state.specs.declared.state.RunState.{RunState}
use Rattle.cad_world.specs.Labels.{with_node}
use Rattle.cad_world.specs.Locations.{with_found, key_position, keys_in}
use Rattle.cad_world.specs.Rows as rows
use Rattle.cad_world.specs.Rows.{NodeShape, dictionary, Row, Tree, Slot, out, free, full, slot, Found, count_places, bare_tree}
use Rattle.cad_world.specs.State.{State, ok, failed, Action, ◌>>◌, give, require, with_some}
use Rattle.cad_world.specs.Trees.{value_of, wrapped, nil_tree}
use Rattle.cad_containers.specs.Code.Changes.{Changes, taken_as}
use Rattle.cad_containers.specs.Code.Dictionaries.{HasKeys, IsDictionary, IsWrapped, GivesNil}
use Rattle.cad_containers.proofs.Changing.{never, same_state, value_in, found_here, node_stops, taking}

-- what was taken out, in an optional, behind a change
taken_some : (shape : NodeShape) (l : ℕ) (parts : Row) (o : Slot) (s v : State) (t u : Tree) → bare_in o ≡ Some t → u ≡ wrapped t → with_node l shape parts s ≡ v
    → (spec.becomes l shape parts >> spec.taken_value o) s ≡ ok u v
taken_some shape l parts (full x) s v t u e f g = ap (λ z. ok (wrapped (bare_tree x)) z) g ∙ ap (λ z. ok (wrapped z) v) (some_in (bare_tree x) t e) ∙ ap (λ z. ok z v) (sym f)
  where
    some_in : (a b : Tree) → Some a ≡ Some b → a ≡ b
    some_in a b h = cc h
taken_some shape l parts free s v t u e f g = absurd (cc e)
taken_some shape l parts out s v t u e f g = absurd (cc e)

taken_none : (shape : NodeShape) (l : ℕ) (parts : Row) (o : Slot) (s : State) → bare_in o ≡ None → (spec.becomes l shape parts >> spec.taken_value o) s ≡ failed 113
taken_none shape l parts (full x) s e = absurd (cc e)
taken_none shape l parts free s e = refl
taken_none shape l parts out s e = refl

-- the node gets another shape and another row, and what stood in a place is given in an optional
pub value_taken : (l : ℕ) (is : Found → Type 0) (h : NodeShape → NodeShape) (g : Row → Row) (i : ℕ) (x y : RunState) (taken : Result (Option code.Tree) Stop) (r : Result code.Tree Stop) → IsWrapped (taken_as taken) r
    → FindsAndCarriesOut (λ o. option_map pure_tree o) (taking l h g i) x y taken
    → Changes l is (λ f. spec.becomes l (h f.tree.shape) (g f.tree.parts) >> spec.taken_value (slot i f.tree.parts)) x y r
value_taken l is h g i x y (Ok (Some t)) (Ok u) fits changed w ready f here known =
    let s = state_over w x in
    let e = sym (found_here l (λ f s. ok (bare_in (slot i f.tree.parts)) (with_node l (h f.tree.shape) (g f.tree.parts) s)) f s here) ∙ changed w ready in
    taken_some (h f.tree.shape) l (g f.tree.parts) (slot i f.tree.parts) s (state_over w y) (pure_tree t) (pure_tree u)
    (value_in (bare_in (slot i f.tree.parts)) (Some (pure_tree t)) (with_node l (h f.tree.shape) (g f.tree.parts) s) (state_over w y) e) fits
    (same_state (bare_in (slot i f.tree.parts)) (Some (pure_tree t)) (with_node l (h f.tree.shape) (g f.tree.parts) s) (state_over w y) e)
value_taken l is h g i x y (Ok (Some t)) (Err why) fits changed w ready f here known =
    subst (λ (z : Stop). Stops ((spec.becomes l (h f.tree.shape) (g f.tree.parts) >> spec.taken_value (slot i f.tree.parts)) (state_over w x)) z) (sym fits) tt
value_taken l is h g i x y (Ok None) (Ok u) fits changed w ready f here known = absurd fits
value_taken l is h g i x y (Ok None) (Err why) fits changed w ready f here known =
    let s = state_over w x in
    let e = sym (found_here l (λ f s. ok (bare_in (slot i f.tree.parts)) (with_node l (h f.tree.shape) (g f.tree.parts) s)) f s here) ∙ changed w ready in
    subst (λ (z : Stop). Stops ((spec.becomes l (h f.tree.shape) (g f.tree.parts) >> spec.taken_value (slot i f.tree.parts)) s) z) (sym fits)
    (taken_none (h f.tree.shape) l (g f.tree.parts) (slot i f.tree.parts) s (value_in (bare_in (slot i f.tree.parts)) None (with_node l (h f.tree.shape) (g f.tree.parts) s) (state_over w y) e))
value_taken l is h g i x y (Err why) (Ok u) fits changed w ready f here known = absurd fits
value_taken l is h g i x y (Err why) (Err other) fits changed w ready f here known =
    subst (λ (z : Stop). Stops ((spec.becomes l (h f.tree.shape) (g f.tree.parts) >> spec.taken_value (slot i f.tree.parts)) (state_over w x)) z) (sym fits)
    (node_stops (λ o. option_map pure_tree o) l is (λ f s. ok (bare_in (slot i f.tree.parts)) (with_node l (h f.tree.shape) (g f.tree.parts) s)) (λ f s. bare_in (slot i f.tree.parts))
    (λ f s. with_node l (h f.tree.shape) (g f.tree.parts) s) (λ f. spec.becomes l (h f.tree.shape) (g f.tree.parts) >> spec.taken_value (slot i f.tree.parts)) x y y why (λ f s. refl) changed w ready f here known)

-- an action that comes to the same of the node that it is
pub changes_same : (l : ℕ) (is as_well : Found → Type 0) (p q : Found → Action Tree) (x y : RunState) (r : Result code.Tree Stop) → ((f : Found) → as_well f → is f) → ((f : Found) → as_well f → q f ≡ p f)
    → Changes l is p x y r → Changes l as_well q x y r
changes_same l is as_well p q x y r weaker same h w ready f here known =
    subst (λ (a : Action Tree). Does pure_tree a (state_over w x) (state_over w y) r) (sym (same f known)) (h w ready f here (weaker f known))

-- under a key that is there
pub replaced_value : (l : ℕ) (kt vt : PureType) (k t : Tree) (i : ℕ) (x y : RunState) (taken : Result (Option code.Tree) Stop) (r : Result code.Tree Stop) → IsWrapped (taken_as taken) r
    → FindsAndCarriesOut (λ o. option_map pure_tree o) (taking l (λ z. z) (rows.put i t) i) x y taken
    → Changes l (HasKeys kt vt) (λ f. spec.key_put l kt vt (keys_in f.tree.shape) f.tree.parts k t (Some i)) x y r
replaced_value l kt vt k t i x y taken r fits changed =
    changes_same l (HasKeys kt vt) (HasKeys kt vt) (λ f. spec.becomes l f.tree.shape (rows.put i t f.tree.parts) >> spec.taken_value (slot i f.tree.parts))
    (λ f. spec.key_put l kt vt (keys_in f.tree.shape) f.tree.parts k t (Some i)) x y r (λ f known. known)
    (λ f known. ap (λ z. spec.becomes l z (rows.put i t f.tree.parts) >> spec.taken_value (slot i f.tree.parts)) (sym known))
    (value_taken l (HasKeys kt vt) (λ z. z) (rows.put i t) i x y taken r fits changed)

-- a key goes
pub dropped : (l : ℕ) (kt vt : PureType) (n : ℕ) (k : Tree) (i : ℕ) (x y : RunState) (taken : Result (Option code.Tree) Stop) (r : Result code.Tree Stop) → IsWrapped (taken_as taken) r
    → FindsAndCarriesOut (λ o. option_map pure_tree o) (taking l (without_key i) (rows.cut i) i) x y taken
    → Changes l (IsDictionary kt vt n (value_of k) (Some i)) (λ f. spec.dictionary_remove l kt vt (keys_in f.tree.shape) f.tree.parts k) x y r
dropped l kt vt n k i x y taken r fits changed =
    changes_same l (IsDictionary kt vt n (value_of k) (Some i)) (IsDictionary kt vt n (value_of k) (Some i))
    (λ f. spec.becomes l (without_key i f.tree.shape) (rows.cut i f.tree.parts) >> spec.taken_value (slot i f.tree.parts))
    (λ f. spec.dictionary_remove l kt vt (keys_in f.tree.shape) f.tree.parts k) x y r (λ f known. known)
    (λ f known. ap (λ o. spec.key_cut l kt vt (keys_in f.tree.shape) f.tree.parts o) (sym known.2)
    ∙ ap (λ z. spec.becomes l z (rows.cut i f.tree.parts) >> spec.taken_value (slot i f.tree.parts)) (sym (ap (without_key i) known.0)))
    (value_taken l (IsDictionary kt vt n (value_of k) (Some i)) (without_key i) (rows.cut i) i x y taken r fits changed)

-- a key that isn't there doesn't go
pub nothing_dropped : (l : ℕ) (kt vt : PureType) (n : ℕ) (k : Tree) (x : RunState) (t : code.Tree) → pure_tree t ≡ nil_tree
    → Changes l (IsDictionary kt vt n (value_of k) None) (λ f. spec.dictionary_remove l kt vt (keys_in f.tree.shape) f.tree.parts k) x x (Ok t)
nothing_dropped l kt vt n k x t e w ready f here known =
    ap (λ o. spec.key_cut l kt vt (keys_in f.tree.shape) f.tree.parts o (state_over w x)) (sym known.2) ∙ ap (λ z. ok z (state_over w x)) (sym e)

-- under a key that isn't there
pub added_value : (l : ℕ) (kt vt : PureType) (n : ℕ) (v : PureValue) (k t : Tree) (x y : RunState) (changed : Result (Unit {0}) Stop) (r : Result code.Tree Stop) → nat_le (suc n) most_elements ≡ true → GivesNil changed r → value_of k ≡ v
    → FindsAndCarriesOut no_value (with_found l (λ f s. ok tt (with_node l (with_key v f.tree.shape) (rows.add_last t f.tree.parts) s))) x y changed
    → Changes l (IsDictionary kt vt n v None) (λ f. spec.key_put l kt vt (keys_in f.tree.shape) f.tree.parts k t None) x y r
added_value l kt vt n v k t x y changed r fits is e done w ready f here known =
    subst (λ (a : Action Tree). Does pure_tree a (state_over w x) (state_over w y) r)
    (sym (ap (λ (b : Bool). require 123 b (spec.becomes l (dictionary kt vt (keys_in f.tree.shape ++ value_of k ∷ [])) (rows.add_last t f.tree.parts) >> give nil_tree)) (ap (λ c. nat_le (suc c) most_elements) (sym known.1) ∙ fits)
    ∙ ap (λ z. spec.becomes l (dictionary kt vt (keys_in f.tree.shape ++ z ∷ [])) (rows.add_last t f.tree.parts) >> give nil_tree) e
    ∙ ap (λ z. spec.becomes l z (rows.add_last t f.tree.parts) >> give nil_tree) (sym (ap (with_key v) known.0))))
    (go changed r is done)
  where
    go : (changed : Result (Unit {0}) Stop) (r : Result code.Tree Stop) → GivesNil changed r
        → FindsAndCarriesOut no_value (with_found l (λ f s. ok tt (with_node l (with_key v f.tree.shape) (rows.add_last t f.tree.parts) s))) x y changed
        → Does pure_tree (spec.becomes l (with_key v f.tree.shape) (rows.add_last t f.tree.parts) >> give nil_tree) (state_over w x) (state_over w y) r
    go (Ok u) (Ok a) is done =
        ap (ok nil_tree) (same_state tt tt (with_node l (with_key v f.tree.shape) (rows.add_last t f.tree.parts) (state_over w x)) (state_over w y)
        (sym (found_here l (λ f s. ok tt (with_node l (with_key v f.tree.shape) (rows.add_last t f.tree.parts) s)) f (state_over w x) here) ∙ done w ready))
        ∙ ap (λ z. ok z (state_over w y)) (sym is)
    go (Ok u) (Err why) is done = absurd is
    go (Err why) (Ok a) is done = absurd is
    go (Err why) (Err other) is done =
        subst (λ (z : Stop). Stops ((spec.becomes l (with_key v f.tree.shape) (rows.add_last t f.tree.parts) >> give nil_tree) (state_over w x)) z) (sym is)
        (never (with_found l (λ f s. ok tt (with_node l (with_key v f.tree.shape) (rows.add_last t f.tree.parts) s)) (state_over w x)) _ tt (with_node l (with_key v f.tree.shape) (rows.add_last t f.tree.parts) (state_over w x)) why
        (found_here l (λ f s. ok tt (with_node l (with_key v f.tree.shape) (rows.add_last t f.tree.parts) s)) f (state_over w x) here) (done w ready))

pub keys_crowded : (l : ℕ) (kt vt : PureType) (n : ℕ) (k t : Tree) (f : Found) (s : State) → nat_le (suc n) most_elements ≡ false → n ≡ count_places f.tree.parts → spec.key_put l kt vt (keys_in f.tree.shape) f.tree.parts k t None s ≡ failed 123
keys_crowded l kt vt n k t f s fits known =
    ap (λ (b : Bool). require 123 b (spec.becomes l (dictionary kt vt (keys_in f.tree.shape ++ value_of k ∷ [])) (rows.add_last t f.tree.parts) >> give nil_tree) s) (ap (λ c. nat_le (suc c) most_elements) (sym known) ∙ fits)

-- ---- by where the key stands

pub put_some : (l : ℕ) (kt vt : PureType) (n : ℕ) (v : PureValue) (k t : Tree) (position : Option ℕ) (i : ℕ) (x y : RunState) (r : Result code.Tree Stop) → position ≡ Some i → value_of k ≡ v
    → Changes l (HasKeys kt vt) (λ f. spec.key_put l kt vt (keys_in f.tree.shape) f.tree.parts k t (Some i)) x y r
    → Changes l (IsDictionary kt vt n v position) (λ f. spec.key_put l kt vt (keys_in f.tree.shape) f.tree.parts k t (key_position (value_of k) (keys_in f.tree.shape))) x y r
put_some l kt vt n v k t position i x y r e same h =
    changes_same l (HasKeys kt vt) (IsDictionary kt vt n v position) (λ f. spec.key_put l kt vt (keys_in f.tree.shape) f.tree.parts k t (Some i))
    (λ f. spec.key_put l kt vt (keys_in f.tree.shape) f.tree.parts k t (key_position (value_of k) (keys_in f.tree.shape))) x y r (λ f known. known.0)
    (λ f known. ap (spec.key_put l kt vt (keys_in f.tree.shape) f.tree.parts k t) (ap (λ z. key_position z (keys_in f.tree.shape)) same ∙ sym known.2 ∙ e)) h

pub put_none : (l : ℕ) (kt vt : PureType) (n : ℕ) (v : PureValue) (k t : Tree) (position : Option ℕ) (x y : RunState) (r : Result code.Tree Stop) → position ≡ None → value_of k ≡ v
    → Changes l (IsDictionary kt vt n v None) (λ f. spec.key_put l kt vt (keys_in f.tree.shape) f.tree.parts k t None) x y r
    → Changes l (IsDictionary kt vt n v position) (λ f. spec.key_put l kt vt (keys_in f.tree.shape) f.tree.parts k t (key_position (value_of k) (keys_in f.tree.shape))) x y r
put_none l kt vt n v k t position x y r e same h =
    changes_same l (IsDictionary kt vt n v None) (IsDictionary kt vt n v position) (λ f. spec.key_put l kt vt (keys_in f.tree.shape) f.tree.parts k t None)
    (λ f. spec.key_put l kt vt (keys_in f.tree.shape) f.tree.parts k t (key_position (value_of k) (keys_in f.tree.shape))) x y r (λ f known. (known.0, known.1, sym e ∙ known.2))
    (λ f known. ap (spec.key_put l kt vt (keys_in f.tree.shape) f.tree.parts k t) (ap (λ z. key_position z (keys_in f.tree.shape)) same ∙ sym known.2 ∙ e)) h

pub dropped_at : (l : ℕ) (kt vt : PureType) (n : ℕ) (k : Tree) (position : Option ℕ) (i : ℕ) (x y : RunState) (r : Result code.Tree Stop) → position ≡ Some i
    → Changes l (IsDictionary kt vt n (value_of k) (Some i)) (λ f. spec.dictionary_remove l kt vt (keys_in f.tree.shape) f.tree.parts k) x y r
    → Changes l (IsDictionary kt vt n (value_of k) position) (λ f. spec.dictionary_remove l kt vt (keys_in f.tree.shape) f.tree.parts k) x y r
dropped_at l kt vt n k position i x y r e h =
    subst (λ (o : Option ℕ). Changes l (IsDictionary kt vt n (value_of k) o) (λ f. spec.dictionary_remove l kt vt (keys_in f.tree.shape) f.tree.parts k) x y r) (sym e) h

pub not_dropped : (l : ℕ) (kt vt : PureType) (n : ℕ) (k : Tree) (position : Option ℕ) (x : RunState) (t : code.Tree) → position ≡ None → pure_tree t ≡ nil_tree
    → Changes l (IsDictionary kt vt n (value_of k) position) (λ f. spec.dictionary_remove l kt vt (keys_in f.tree.shape) f.tree.parts k) x x (Ok t)
not_dropped l kt vt n k position x t e is =
    subst (λ (o : Option ℕ). Changes l (IsDictionary kt vt n (value_of k) o) (λ f. spec.dictionary_remove l kt vt (keys_in f.tree.shape) f.tree.parts k) x x (Ok t)) (sym e) (nothing_dropped l kt vt n k x t is)

-- ---- over the arguments

pub inserted : (r : Row) (k t : Tree) (p : Tree → Tree → Action Tree) → Some k ≡ argument 0 r → Some t ≡ argument 1 r → with_arguments r p ≡ p k t
inserted r k t p e f = ap (λ o. with_some o (λ a. with_some (argument 1 r) (λ b. p a b))) (sym e) ∙ ap (λ o. with_some o (λ b. p k b)) (sym f)

-- the key that the first argument is
pub key_is : (o : Option Tree) (k : Tree) (v : PureValue) → option_map value_of o ≡ Some v → Some k ≡ o → value_of k ≡ v
key_is o k v e f = value_at (value_of k) v (ap (option_map value_of) f ∙ e)
  where
    value_at : (a b : PureValue) → Some a ≡ Some b → a ≡ b
    value_at a b h = cc h

pub insert_over : (l : ℕ) (kt vt : PureType) (n : ℕ) (v : PureValue) (o : Option ℕ) (r : Row) (k t : Tree) (x y : RunState) (q : Result code.Tree Stop) → Some k ≡ argument 0 r → Some t ≡ argument 1 r
    → Changes l (IsDictionary kt vt n v o) (λ f. spec.dictionary_insert l kt vt (keys_in f.tree.shape) f.tree.parts k t) x y q
    → Changes l (IsDictionary kt vt n v o) (λ f. with_arguments r (spec.dictionary_insert l kt vt (keys_in f.tree.shape) f.tree.parts)) x y q
insert_over l kt vt n v o r k t x y q e f h =
    changes_same l (IsDictionary kt vt n v o) (IsDictionary kt vt n v o) (λ d. spec.dictionary_insert l kt vt (keys_in d.tree.shape) d.tree.parts k t)
    (λ d. with_arguments r (spec.dictionary_insert l kt vt (keys_in d.tree.shape) d.tree.parts)) x y q (λ d known. known)
    (λ d known. inserted r k t (spec.dictionary_insert l kt vt (keys_in d.tree.shape) d.tree.parts) e f) h

-- `remove`, of the first argument
pub remove_over : (l : ℕ) (kt vt : PureType) (n : ℕ) (v : PureValue) (o : Option ℕ) (first : Option Tree) (x y : RunState) (q : Result code.Tree Stop) → option_map value_of first ≡ Some v
    → ((k : Tree) → Changes l (IsDictionary kt vt n (value_of k) o) (λ f. spec.dictionary_remove l kt vt (keys_in f.tree.shape) f.tree.parts k) x y q)
    → Changes l (IsDictionary kt vt n v o) (λ f. with_some first (λ k. spec.dictionary_remove l kt vt (keys_in f.tree.shape) f.tree.parts k)) x y q
remove_over l kt vt n v o None x y q e h = absurd (cc e)
remove_over l kt vt n v o (Some k) x y q e h =
    subst (λ (z : PureValue). Changes l (IsDictionary kt vt n z o) (λ f. spec.dictionary_remove l kt vt (keys_in f.tree.shape) f.tree.parts k) x y q) (key_is (Some k) k v e refl) (h k)
