-- A value leaves its place, and comes to a place.
use Rattle.std.specs.Prelude.{ℕ, zero, suc, Bool, false, not, ◌&&◌, ◌==◌, List, [], ◌∷◌, ◌++◌, Option, Some, None, pos}
use Rattle.cad_syntax.specs.Types.{PureType}
use Rattle.cad_values.specs.Values.{PureValue, nil}
use Rattle.cad_world.specs.Rows.{NodeShape, plain, array, dictionary, Row, Tree, Slot, out, free, full, slot, put, cut, clear, add_last, bare_tree, tree_owns, count_places}
use Rattle.cad_world.specs.State.{State, Action, ok, ◌>>=◌, ◌>>◌, give, done, stuck, fail, guard, choose}
use Rattle.cad_world.specs.Trees.{nil_tree, tree_of}
use Rattle.cad_world.specs.Same.{same_key}
use Rattle.cad_world.specs.Labels.{with_node, same_node, variables}
use Rattle.cad_world.specs.Transfers.{transferred}
use Rattle.cad_world.specs.Locations.{Location, variable, part, element, entry, slot_of, read, empty_error, as_read, changed_at, key_position, with_found}
use Rattle.cad_evaluation.specs.Containers.{of_type, room, without_key}

-- ---- optionals

pub data Content : Type 0 where
  -- nil
  nothing : Content
  content : Tree → Content
  -- the value is no optional
  no_optional : Content

abbrev pub content_in_value : PureValue → Content
content_in_value nil = nothing
content_in_value _ = no_optional

abbrev pub content_in_shape : NodeShape → Content
content_in_shape (plain v) = content_in_value v
content_in_shape _ = no_optional

abbrev pub content_in : ℕ → Tree → Content
content_in zero t = content_in_shape t.shape
content_in (suc n) t = content (record t { optionals = n })

-- what is in an optional
abbrev pub content_of : Tree → Content
content_of t = content_in t.optionals t

abbrev pub by_content : {A : Type 0} → Content → Action A → (Tree → Action A) → Action A
by_content nothing p f = p
by_content (content t) p f = f t
by_content no_optional p f = stuck

-- with the content; without it where there is none; IllTyped where it is no optional
abbrev pub opened : {A : Type 0} → Tree → Action A → (Tree → Action A) → Action A
opened t p f = by_content (content_of t) p f

-- ---- a value leaves its place, which is empty then

abbrev pub nothing_there : Location → Action Tree
nothing_there (entry l key) = give nil_tree
nothing_there _ = stuck

abbrev pub take_slot : Location → Slot → Action Tree
take_slot x (full t) = λ s. ok (bare_tree (as_read x t)) (changed_at clear x s)
take_slot x free = empty_error x
take_slot x out = nothing_there x

-- 104, 113 and 132 by the place; where a dictionary lacks the key the value is nil
abbrev pub take : Location → Action Tree
take x = slot_of x >>= take_slot x

-- ---- a value comes to an empty place

abbrev pub put_at : Location → Tree → Action (Unit {0})
put_at x t = λ s. ok tt (changed_at (λ i. put i t) x s)

-- a variable's place is empty, or isn't there yet
abbrev pub fill_variable : ℕ → Tree → Slot → Action (Unit {0})
fill_variable x t (full old) = stuck
fill_variable x t _ = put_at (variable x) t

-- the place of a field is empty; one that was filled meanwhile is another place
abbrev pub fill_part : Location → Tree → Slot → Action (Unit {0})
fill_part x t free = put_at x t
fill_part x t (full old) = fail 113
fill_part x t out = stuck

abbrev pub fill_place : Location → PureType → Tree → Slot → Action (Unit {0})
fill_place x type t free = of_type type t (put_at x t)
fill_place x type t (full old) = fail 113
fill_place x type t out = fail 104

abbrev pub element_type : NodeShape → Option PureType
element_type (array type) = Some type
element_type _ = None

abbrev pub fill_element : Location → Tree → Slot → Option PureType → Action (Unit {0})
fill_element x t place None = stuck
fill_element x t place (Some type) = fill_place x type t place

-- what stands under a key: the key stays where it is; a new one comes last
abbrev pub fill_key : ℕ → PureType → PureType → List PureValue → Row → PureValue → Tree → Option ℕ → Action (Unit {0})
fill_key l key value ks r k t (Some i) = fill_part (entry l k) t (slot i r)
fill_key l key value ks r k t None = room (suc (count_places r)) (λ s. ok tt (with_node l (dictionary key value (ks ++ k ∷ [])) (add_last t r) s))

-- nil takes the key away
abbrev pub drop_key : ℕ → PureType → PureType → List PureValue → Row → Option ℕ → Action (Unit {0})
drop_key l key value ks r (Some i) = λ s. ok tt (with_node l (dictionary key value (without_key i ks)) (cut i r) s)
drop_key l key value ks r None = done

abbrev pub fill_entry : ℕ → PureValue → Tree → NodeShape → Row → Action (Unit {0})
fill_entry l k t (dictionary key value ks) r = opened t
    (drop_key l key value ks r (key_position k ks))
    (λ v. of_type key (tree_of k) (of_type value v (fill_key l key value ks r k v (key_position k ks))))
fill_entry l k t shape r = stuck

-- 113 where the node is gone, 104 where the element isn't there, 129 by the container's own type, 123 by its size
abbrev pub fill : Location → Tree → Action (Unit {0})
fill (variable x) t = λ s. fill_variable x t (slot x (variables s)) s
fill (part l i) t = with_found l (λ f. fill_part (part l i) t (slot i f.tree.parts))
fill (element l i) t = with_found l (λ f. slot_of (element l i) >>= (λ place. fill_element (element l i) t place (element_type f.tree.shape)))
fill (entry l k) t = with_found l (λ f. fill_entry l k t f.tree.shape f.tree.parts)
fill _ t = stuck

-- ---- assignment

-- an old value without a resource goes
abbrev pub cleared : Location → Slot → Action (Unit {0})
cleared x (full t) = guard (not (tree_owns t)) (λ s. ok tt (changed_at clear x s))
cleared x _ = done

-- `x = v`, and the first setting of a field
abbrev pub assigned : Location → Tree → Action (Unit {0})
assigned x t = slot_of x >>= cleared x >> fill x t

abbrev pub empty_if_nil : Location → Slot → Action (Unit {0})
empty_if_nil x (full t) = opened (as_read x t) (λ s. ok tt (changed_at clear x s)) (λ v. fail 115)
empty_if_nil x free = empty_error x
empty_if_nil x out = nothing_there x >> done

-- `x <-! v`: 115 where the place isn't nil
abbrev pub force_assigned : Location → Tree → Action (Unit {0})
force_assigned x t = slot_of x >>= empty_if_nil x >> fill x t

-- `let old <- x <- v`: what stood there, come to the type of the variable
abbrev pub exchanged : Location → PureType → Tree → Action Tree
exchanged x type t = take x >>= transferred type >>= (λ old. fill x t >> give old)

-- ---- swap

abbrev pub same_location : State → Location → Location → Bool
same_location s (variable x) (variable y) = x == y
same_location s (part l i) (part k j) = same_node s l k && (i == j)
same_location s (element l (pos i)) (element k (pos j)) = same_node s l k && (i == j)
same_location s (entry l x) (entry k y) = same_node s l k && same_key x y
same_location s _ _ = false

-- the node in which the place is, looked up again
abbrev pub still_there : Location → Action (Unit {0})
still_there (part l i) = with_found l (λ f. done)
still_there (element l i) = with_found l (λ f. done)
still_there (entry l k) = with_found l (λ f. done)
still_there _ = done

abbrev pub both_swapped : Location → PureType → Location → PureType → Action (Unit {0})
both_swapped x xtype y ytype =
    take x >>= transferred ytype >>= (λ a.
    take y >>= transferred xtype >>= (λ b.
    still_there x >> still_there y >> fill x b >> fill y a))

-- `x <-> y`: one place with itself stays as it is
abbrev pub swapped : Location → PureType → Location → PureType → Action (Unit {0})
swapped x xtype y ytype = λ s. choose (same_location s x y) (read x >> done) (both_swapped x xtype y ytype) s
