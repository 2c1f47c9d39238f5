-- How the dictionary is changed that a receiver is now.
use Rattle.std.specs.Prelude.{◌≡◌, ℕ, List, Option, Some, Result, Ok, Err}
use Rattle.cad_syntax.specs.Types.{PureType, pure_type}
use Rattle.cad_values.specs.Values.{PureValue}
use Rattle.cad_world.specs.Labels.{at}
use Rattle.cad_world.specs.Locations.{key_position, keys_in}
use Rattle.cad_world.specs.Receivers as r
use Rattle.cad_world.specs.Rows.{dictionary, Row, Tree, Found, count_places}
use Rattle.cad_world.specs.State.{State, Action}
use Rattle.cad_world.specs.Trees.{wrapped, nil_tree}
use Rattle.cad_evaluation.specs.Builtins.{on_dictionary_at}
use Rattle.cad_outcomes.specs.Outcomes.{Stops}
use Rattle.cad_outcomes.specs.declared.stop.Stop.{Stop}
use Rattle.cad_outcomes.specs.declared.stop.Stop.TheVariants.{Memory}
use Rattle.cad_receivers.specs.Views.{at_spot}
use Rattle.cad_rows.specs.Views.{pure_tree}
use Rattle.cad_rows.specs.declared.tree.Tree as code
use Rattle.cad_containers.specs.declared.aims.DictionaryAim.{DictionaryAim}

-- a dictionary of these types
abbrev pub HasKeys : PureType → PureType → Found → Type 0
HasKeys key value f = f.tree.shape ≡ dictionary key value (keys_in f.tree.shape)

-- a dictionary of these types, of so many values, in which a key stands there
abbrev pub IsDictionary : PureType → PureType → ℕ → PureValue → Option ℕ → Found → Type 0
IsDictionary key value n k position f = HasKeys key value f × (n ≡ count_places f.tree.parts) × (position ≡ key_position k (keys_in f.tree.shape))

-- what is known of the dictionary that a spot is, or why it can't be changed
abbrev pub IsDictionaryAim : PureValue → r.Spot → Result DictionaryAim Stop → Type 0
IsDictionaryAim k spot (Ok a) =
    (spot.label ≡ Some a.label) × (spot.tree.optionals ≡ 0) × (spot.tree.shape ≡ dictionary (pure_type a.key) (pure_type a.value) (keys_in spot.tree.shape))
    × (a.count ≡ count_places spot.tree.parts) × (a.position ≡ key_position k (keys_in spot.tree.shape))
IsDictionaryAim k spot (Err stop) = (p : ℕ → PureType → PureType → List PureValue → Row → Action Tree) (s : State) → Stops (on_dictionary_at spot p s) stop

-- what is known of the dictionary that a receiver is now: a change of the receiver is one of the node with this label
abbrev pub DictionaryAimed : PureValue → r.Receiver → State → Result DictionaryAim Stop → Type 0
DictionaryAimed k x s (Ok a) =
    (f : Found) × (at a.label s ≡ Some f) × IsDictionary (pure_type a.key) (pure_type a.value) a.count k a.position f
    × ((p : ℕ → PureType → PureType → List PureValue → Row → Action Tree)
    → at_spot x (λ spot. on_dictionary_at spot p) s ≡ p a.label (pure_type a.key) (pure_type a.value) (keys_in f.tree.shape) f.tree.parts s)
DictionaryAimed k x s (Err stop) = (p : ℕ → PureType → PureType → List PureValue → Row → Action Tree) → Stops (at_spot x (λ spot. on_dictionary_at spot p) s) stop

-- what was taken out, in an optional; want of memory is free
abbrev pub IsWrapped : Result code.Tree Stop → Result code.Tree Stop → Type 0
IsWrapped (Ok t) (Ok u) = pure_tree u ≡ wrapped (pure_tree t)
IsWrapped (Ok t) (Err stop) = stop ≡ Memory
IsWrapped (Err why) (Ok u) = ⊥
IsWrapped (Err why) (Err stop) = stop ≡ why

-- a change gives nil
abbrev pub GivesNil : Result (Unit {0}) Stop → Result code.Tree Stop → Type 0
GivesNil (Ok u) (Ok t) = pure_tree t ≡ nil_tree
GivesNil (Err why) (Err stop) = stop ≡ why
GivesNil (Ok u) (Err stop) = ⊥
GivesNil (Err why) (Ok t) = ⊥
