-- A change of a receiver is one of the node with its label.
use Rattle.std.proofs.Common.{◌≡◌, ℕ, List, Option, Some, map, refl, sym, ap, ◌∙◌, subst}
use Rattle.std.specs.Prelude.{Result, Ok, Err, IfOk, IfErr}
use Rattle.cad_syntax.specs.Types.{PureType, pure_type}
use Rattle.cad_values.specs.Values.{PureValue, pure_value}
use Rattle.cad_evaluation.specs.Builtins.{on_array, on_array_at, by_array, on_dictionary_at, by_dictionary}
use Rattle.cad_outcomes.specs.Outcomes.{Stops}
use Rattle.cad_outcomes.specs.declared.stop.Stop.{Stop}
use Rattle.cad_outcomes.specs.declared.stop.Stop.TheVariants.{Memory}
use Rattle.cad_outcomes.proofs.Steps.{stops_on, stops_same, does_same}
use Rattle.cad_receivers.specs.Views.{at_spot}
use Rattle.cad_rows.specs.Views.{pure_row, pure_tree}
use Rattle.cad_rows.specs.declared.tree.Tree as code
use Rattle.cad_state.specs.Views.{state_over, IsReady, FindsAndCarriesOut}
use Rattle.cad_state.specs.declared.state.RunState.{RunState}
use Rattle.cad_world.specs.Locations.{key_position, keys_in}
use Rattle.cad_world.specs.Receivers as r
use Rattle.cad_world.specs.Rows.{NodeShape, array, dictionary, Row, Tree, count_places}
use Rattle.cad_world.specs.State.{State, Account, ok, bind, Action, with_some}
use Rattle.cad_containers.specs.Code.Changes.{IsArrayAim, ArrayAimed, Changes, ChangesArray}
use Rattle.cad_containers.specs.Code.Dictionaries.{IsDictionary, IsDictionaryAim, DictionaryAimed}
use Rattle.cad_containers.specs.Code.Parts.{AreElements, AreEntries}
use Rattle.cad_containers.specs.declared.aims.ArrayAim.{ArrayAim}
use Rattle.cad_containers.specs.declared.aims.DictionaryAim.{DictionaryAim}
use Rattle.cad_containers.specs.declared.parts.Elements.{Elements}
use Rattle.cad_containers.specs.declared.parts.Entries.{Entries}
use Rattle.cad_containers.proofs.Looks.{OfLabel, node_of_look}

-- ---- arrays

at_elements : (label : Option ℕ) (n : ℕ) (shape : NodeShape) (parts q : Row) (l : ℕ) (type : PureType) (p : ℕ → PureType → Row → Action Tree) (s : State) → label ≡ Some l → n ≡ 0 → shape ≡ array type → q ≡ parts
    → with_some label (λ l. by_array n shape parts (p l)) s ≡ p l type q s
at_elements label n shape parts q l type p s e f g h =
    ap (λ o. with_some o (λ l. by_array n shape parts (p l)) s) e ∙ ap (λ k. by_array k shape parts (p l) s) f ∙ ap (λ k. by_array 0 k parts (p l) s) g ∙ ap (λ k. p l type k s) (sym h)

pub aimed : (x : r.Receiver) (s : State) (spot : r.Spot) (a : Result ArrayAim Stop) → r.look_at x s ≡ ok spot s → IsArrayAim spot a → ArrayAimed x s a
aimed x s spot (Ok a) e h =
    let here : OfLabel (Some a.label) spot.tree s = subst (λ (o : Option ℕ). OfLabel o spot.tree s) h.0 (node_of_look x s s spot e) in (
      here.0,
      here.1,
      here.2 ∙ h.2,
      h.3 ∙ ap count_places (sym here.3),
      (λ p. ap (λ o. bind o (λ first. on_array_at first p)) e ∙ at_elements spot.label spot.tree.optionals spot.tree.shape spot.tree.parts here.0.tree.parts a.label (pure_type a.element) p s h.0 h.1 h.2 here.3),
      (λ p. ap (λ o. bind o (λ first. on_array first p)) e ∙ at_elements (Some a.label) spot.tree.optionals spot.tree.shape spot.tree.parts here.0.tree.parts a.label (pure_type a.element) (λ l. p) s refl h.1 h.2 here.3),
    )
aimed x s spot (Err why) e h = (
  (λ p. stops_same (at_spot x (λ first. on_array_at first p) s) (on_array_at spot p s) why (ap (λ o. bind o (λ first. on_array_at first p)) e) (h.0 p s)),
  (λ p. stops_same (at_spot x (λ first. on_array first p) s) (on_array spot p s) why (ap (λ o. bind o (λ first. on_array first p)) e) (h.1 p s)),
)

pub look_stops_aim : (x : r.Receiver) (s : State) (why : Stop) → Stops (r.look_at x s) why → ArrayAimed x s (Err why)
look_stops_aim x s why h = ((λ p. stops_on (r.look_at x s) (λ first. on_array_at first p) why h), (λ p. stops_on (r.look_at x s) (λ first. on_array first p) why h))

-- the array that a spot is
pub aim_is : (spot : r.Spot) (l : ℕ) (x : Elements) (a : Result ArrayAim Stop) → spot.label ≡ Some l → AreElements spot.tree.optionals spot.tree.shape spot.tree.parts (Some x)
    → IfOk a (λ b. (b.label ≡ l) × (pure_type b.element ≡ pure_type x.element.now) × (b.count ≡ count_places (pure_row x.parts.now))) → IfErr a (λ why. why ≡ Memory) → IsArrayAim spot a
aim_is spot l x (Ok b) e are known memory = (e ∙ ap Some (sym known.0), are.0, are.1 ∙ ap array (sym known.1), known.2 ∙ ap count_places (sym are.2))
aim_is spot l x (Err why) e are known memory =
    ((λ p s. subst (λ (w : Stop). Stops (on_array_at spot p s) w) (sym memory) tt), (λ p s. subst (λ (w : Stop). Stops (on_array spot p s) w) (sym memory) tt))

-- what is done with the node is done with the receiver
pub aimed_change : (x : r.Receiver) (p : ℕ → PureType → Row → Action Tree) (a c : RunState) (aim : ArrayAim) (q : Result code.Tree Stop)
    → ((w : List Account) → IsReady w a → ArrayAimed x (state_over w a) (Ok aim)) → ChangesArray aim.label (pure_type aim.element) aim.count (p aim.label (pure_type aim.element)) a c q
    → FindsAndCarriesOut pure_tree (at_spot x (λ spot. on_array_at spot p)) a c q
aimed_change x p a c aim q aims change w ready =
    let k = aims w ready in
    does_same pure_tree (at_spot x (λ spot. on_array_at spot p)) (p aim.label (pure_type aim.element) k.0.tree.parts) (state_over w a) (state_over w c) q (k.4 p) (change w ready k.0 k.1 (k.2, k.3))

-- the same of what only reads the array
pub aimed_read : (x : r.Receiver) (p : PureType → Row → Action Tree) (a c : RunState) (aim : ArrayAim) (q : Result code.Tree Stop)
    → ((w : List Account) → IsReady w a → ArrayAimed x (state_over w a) (Ok aim)) → ChangesArray aim.label (pure_type aim.element) aim.count (p (pure_type aim.element)) a c q
    → FindsAndCarriesOut pure_tree (at_spot x (λ spot. on_array spot p)) a c q
aimed_read x p a c aim q aims change w ready =
    let k = aims w ready in
    does_same pure_tree (at_spot x (λ spot. on_array spot p)) (p (pure_type aim.element) k.0.tree.parts) (state_over w a) (state_over w c) q (k.5 p) (change w ready k.0 k.1 (k.2, k.3))

-- ---- dictionaries

at_entries : (label : Option ℕ) (n : ℕ) (shape own : NodeShape) (parts q : Row) (l : ℕ) (kt vt : PureType) (p : ℕ → PureType → PureType → List PureValue → Row → Action Tree) (s : State)
    → label ≡ Some l → n ≡ 0 → shape ≡ dictionary kt vt (keys_in shape) → own ≡ shape → q ≡ parts
    → with_some label (λ l. by_dictionary n shape parts (p l)) s ≡ p l kt vt (keys_in own) q s
at_entries label n shape own parts q l kt vt p s e f g same h =
    ap (λ o. with_some o (λ l. by_dictionary n shape parts (p l)) s) e ∙ ap (λ k. by_dictionary k shape parts (p l) s) f ∙ ap (λ k. by_dictionary 0 k parts (p l) s) g
    ∙ ap (λ k. p l kt vt (keys_in k) parts s) (sym same) ∙ ap (λ k. p l kt vt (keys_in own) k s) (sym h)

pub dictionary_aimed : (k : PureValue) (x : r.Receiver) (s : State) (spot : r.Spot) (a : Result DictionaryAim Stop) → r.look_at x s ≡ ok spot s → IsDictionaryAim k spot a → DictionaryAimed k x s a
dictionary_aimed k x s spot (Ok a) e h =
    let here : OfLabel (Some a.label) spot.tree s = subst (λ (o : Option ℕ). OfLabel o spot.tree s) h.0 (node_of_look x s s spot e) in (
      here.0,
      here.1,
      (here.2 ∙ h.2 ∙ ap (λ z. dictionary (pure_type a.key) (pure_type a.value) (keys_in z)) (sym here.2), h.3 ∙ ap count_places (sym here.3), h.4 ∙ ap (λ z. key_position k (keys_in z)) (sym here.2)),
      λ p. ap (λ o. bind o (λ first. on_dictionary_at first p)) e
          ∙ at_entries spot.label spot.tree.optionals spot.tree.shape here.0.tree.shape spot.tree.parts here.0.tree.parts a.label (pure_type a.key) (pure_type a.value) p s h.0 h.1 h.2 here.2 here.3,
    )
dictionary_aimed k x s spot (Err why) e h = λ p. stops_same (at_spot x (λ first. on_dictionary_at first p) s) (on_dictionary_at spot p s) why (ap (λ o. bind o (λ first. on_dictionary_at first p)) e) (h p s)

pub look_stops_dictionary : (k : PureValue) (x : r.Receiver) (s : State) (why : Stop) → Stops (r.look_at x s) why → DictionaryAimed k x s (Err why)
look_stops_dictionary k x s why h = λ p. stops_on (r.look_at x s) (λ first. on_dictionary_at first p) why h

-- the dictionary that a spot is
pub dictionary_aim_is : (k : PureValue) (spot : r.Spot) (l : ℕ) (x : Entries) (a : Result DictionaryAim Stop) → spot.label ≡ Some l → AreEntries spot.tree.optionals spot.tree.shape spot.tree.parts (Some x)
    → IfOk a (λ b. (b.label ≡ l) × (pure_type b.key ≡ pure_type x.key.now) × (pure_type b.value ≡ pure_type x.value.now) × (b.count ≡ count_places (pure_row x.parts.now)) × (b.position ≡ key_position k (map pure_value x.keys.now)))
    → IfErr a (λ why. why ≡ Memory) → IsDictionaryAim k spot a
dictionary_aim_is k spot l x (Ok b) e are known memory =
    let keys = ap keys_in are.1 in (
      e ∙ ap Some (sym known.0),
      are.0,
      are.1 ∙ ap (λ z. dictionary z (pure_type x.value.now) (map pure_value x.keys.now)) (sym known.1) ∙ ap (λ z. dictionary (pure_type b.key) z (map pure_value x.keys.now)) (sym known.2)
          ∙ ap (λ z. dictionary (pure_type b.key) (pure_type b.value) z) (sym keys),
      known.3 ∙ ap count_places (sym are.2),
      known.4 ∙ ap (key_position k) (sym keys),
    )
dictionary_aim_is k spot l x (Err why) e are known memory = λ p s. subst (λ (w : Stop). Stops (on_dictionary_at spot p s) w) (sym memory) tt

-- what is done with the node is done with the receiver
pub aimed_dictionary_change : (k : PureValue) (x : r.Receiver) (p : ℕ → PureType → PureType → List PureValue → Row → Action Tree) (a c : RunState) (aim : DictionaryAim) (q : Result code.Tree Stop)
    → ((w : List Account) → IsReady w a → DictionaryAimed k x (state_over w a) (Ok aim))
    → Changes aim.label (IsDictionary (pure_type aim.key) (pure_type aim.value) aim.count k aim.position) (λ f. p aim.label (pure_type aim.key) (pure_type aim.value) (keys_in f.tree.shape) f.tree.parts) a c q
    → FindsAndCarriesOut pure_tree (at_spot x (λ spot. on_dictionary_at spot p)) a c q
aimed_dictionary_change k x p a c aim q aims change w ready =
    let d = aims w ready in
    let act = p aim.label (pure_type aim.key) (pure_type aim.value) (keys_in d.0.tree.shape) d.0.tree.parts in
    does_same pure_tree (at_spot x (λ spot. on_dictionary_at spot p)) act (state_over w a) (state_over w c) q (d.3 p) (change w ready d.0 d.1 d.2)
