-- What is done where a value comes to a container.
use Rattle.std.specs.Prelude.{ℕ, suc, ℤ, Option, Some, None}
use Rattle.cad_syntax.specs.Types.{PureType}
use Rattle.cad_values.specs.Values.{PureValue}
use Rattle.cad_world.specs.Labels.{with_node}
use Rattle.cad_world.specs.Locations.{element, entry, key_position, slot_of, with_found}
use Rattle.cad_world.specs.Rows.{NodeShape, dictionary, Row, Tree, count_places, add_last, cut}
use Rattle.cad_world.specs.State.{Action, ok, ◌>>=◌, ◌>>◌, give, done, stuck, with_some}
use Rattle.cad_world.specs.Trees.{tree_of}
use Rattle.cad_evaluation.specs.Changing.{element_type, fill_key, fill_part, drop_key, put_at}
use Rattle.cad_evaluation.specs.Containers.{of_type, room}
use Rattle.cad_nodes.specs.Keys.{with_key, without_key}
use Rattle.cad_assignments.specs.declared.asking.Inner.{Inner}
use Rattle.cad_assignments.specs.declared.asking.Inner.TheVariants.{Elements, Keys, Values}

abbrev pub key_type : NodeShape → Option PureType
key_type (dictionary key value ks) = Some key
key_type _ = None

abbrev pub value_type : NodeShape → Option PureType
value_type (dictionary key value ks) = Some value
value_type _ = None

-- the type of what is in a container
abbrev pub type_within : Inner → NodeShape → Option PureType
type_within Elements shape = element_type shape
type_within Keys shape = key_type shape
type_within Values shape = value_type shape

abbrev pub type_in : Inner → ℕ → Action PureType
type_in inner l = with_found l (λ f. with_some (type_within inner f.tree.shape) (λ type. give type))

-- whether a value may come to it
abbrev pub asked : Inner → ℕ → Tree → Action (Unit {0})
asked inner l t = type_in inner l >>= (λ type. of_type type t done)

-- where a key stands in a dictionary
abbrev pub position_in : PureValue → NodeShape → Action (Option ℕ)
position_in k (dictionary key value ks) = give (key_position k ks)
position_in k _ = stuck

abbrev pub position_at : ℕ → PureValue → Action (Option ℕ)
position_at l k = with_found l (λ f. position_in k f.tree.shape)

abbrev pub dropped_in : ℕ → PureValue → NodeShape → Row → Action (Unit {0})
dropped_in l k (dictionary key value ks) r = drop_key l key value ks r (key_position k ks)
dropped_in l k shape r = stuck

-- a key goes
abbrev pub dropped : ℕ → PureValue → Action (Unit {0})
dropped l k = with_found l (λ f. dropped_in l k f.tree.shape f.tree.parts)

abbrev pub placed_in : ℕ → PureValue → Tree → NodeShape → Row → Action (Unit {0})
placed_in l k t (dictionary key value ks) r = fill_key l key value ks r k t (key_position k ks)
placed_in l k t shape r = stuck

-- a value comes under a key
abbrev pub placed : ℕ → PureValue → Tree → Action (Unit {0})
placed l k t = with_found l (λ f. placed_in l k t f.tree.shape f.tree.parts)

-- a value comes under a key, once it was asked
abbrev pub value_set : ℕ → PureValue → Tree → Action (Unit {0})
value_set l k t = asked Values l t >> placed l k t

abbrev pub set_under : ℕ → PureValue → Tree → Action (Unit {0})
set_under l k t = asked Keys l (tree_of k) >> value_set l k t

-- a key that is there goes
abbrev pub key_gone : ℕ → ℕ → Action (Unit {0})
key_gone l i = with_found l (λ f s. ok tt (with_node l (without_key i f.tree.shape) (cut i f.tree.parts) s))

abbrev pub dropped_at : ℕ → Option ℕ → Action (Unit {0})
dropped_at l None = done
dropped_at l (Some i) = key_gone l i

-- a value comes to the place of its key, if that is empty
abbrev pub filled_under : ℕ → PureValue → Tree → Action (Unit {0})
filled_under l k t = slot_of (entry l k) >>= fill_part (entry l k) t

-- there is room for one more
abbrev pub room_in : Row → Action (Unit {0})
room_in r = room (suc (count_places r)) done

abbrev pub has_room : ℕ → Action (Unit {0})
has_room l = with_found l (λ f. room_in f.tree.parts)

abbrev pub key_added : ℕ → PureValue → Tree → Action (Unit {0})
key_added l k t = with_found l (λ f s. ok tt (with_node l (with_key k f.tree.shape) (add_last t f.tree.parts) s))

-- a new key comes last
abbrev pub added : ℕ → PureValue → Tree → Action (Unit {0})
added l k t = has_room l >> key_added l k t

abbrev pub placed_at : ℕ → PureValue → Tree → Option ℕ → Action (Unit {0})
placed_at l k t None = added l k t
placed_at l k t (Some i) = filled_under l k t

-- the node isn't of its kind
abbrev pub refused : ℕ → Action (Unit {0})
refused l = with_found l (λ f. stuck)

-- an element is put in its empty place, once it was asked
abbrev pub element_set : ℕ → ℤ → Tree → Action (Unit {0})
element_set l z t = asked Elements l t >> put_at (element l z) t
