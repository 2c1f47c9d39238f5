-- What a place of a program comes to: where the value stands, or the reference that leads there; and how it is met.
use Rattle.std.specs.Prelude.{ℕ, zero, suc, ◌-◌, Bool, true, false, ◌&&◌, ◌==◌, Option, Some, None}
use Rattle.cad_syntax.specs.declared.text.Name.{Name}
use Rattle.cad_syntax.specs.declared.type_id.TypeId.{TypeId}
use Rattle.cad_syntax.specs.declared.types.Authorization.{Authorization}
use Rattle.cad_syntax.specs.declared.types.Authorization.TheVariants.{Unauthorized}
use Rattle.cad_declarations.specs.Builtins.{may_replace_elements}
use Rattle.cad_declarations.specs.Tables.{MemberEntry}
use Rattle.cad_world.specs.Rows.{NodeShape, array, dictionary, Tree}
use Rattle.cad_world.specs.State.{State, Action, ◌>>=◌, give, stuck, fail, guard, with_some}
use Rattle.cad_world.specs.Trees.{nil_tree, value_of}
use Rattle.cad_world.specs.Labels.{position_of}
use Rattle.cad_world.specs.Locations.{Location, variable, part, element, entry, read, name}
use Rattle.cad_world.specs.Receivers.{Receiver, standing, through, Spot, deref, is_reference, receiver_with}
use Rattle.cad_evaluation.specs.Access.{own_member, serves, may_write}
use Rattle.cad_evaluation.specs.Changing.{Content, nothing, content, no_optional, content_of, take}
use Rattle.cad_evaluation.specs.Casts.{borrowed}
use Rattle.cad_evaluation.specs.Numbers.{integer_in}
use Rattle.cad_evaluation.specs.Reading.{composite_id, field_names}

pub data Standing : Type 0 where
  -- the value stands here, without so many of its optionals; met by its owner or through a reference
  here : Option Authorization → Location → ℕ → Standing
  -- what this reference leads to
  led_by : Tree → Standing
  -- an optional on the way is nil, which ends the chain
  nowhere : Standing

-- a value without so many of its optionals
abbrev pub without : ℕ → Option Tree → Option Tree
without n None = None
without n (Some t) = Some (record t { optionals = t.optionals - n })

-- what the chain goes on with
abbrev pub onward : (Standing → Action Standing) → Standing → Action Standing
onward f nowhere = give nowhere
onward f place = f place

-- ---- optionals

-- nil is 106 under `!`, and else ends the chain
abbrev pub nil_at : Bool → Action Standing
nil_at true = fail 106
nil_at false = give nowhere

abbrev pub content_with : Bool → Option Authorization → Location → ℕ → Content → Action Standing
content_with forces rights x n nothing = nil_at forces
content_with forces rights x n (content t) = give (here rights x (suc n))
content_with forces rights x n no_optional = stuck

abbrev pub or_nil : Option Tree → Tree
or_nil None = nil_tree
or_nil (Some t) = t

-- the content of an optional stands where that does
abbrev pub content_at : Bool → Standing → Action Standing
content_at forces (here rights x n) = read x >>= (λ t. content_with forces rights x n (content_of (or_nil (without n t))))
content_at forces place = stuck

-- ---- bases

-- the node in a place, which is named
abbrev pub named_spot : Option Authorization → Location → Option Tree → Action Spot
named_spot rights x None = stuck
named_spot rights x (Some t) = name x >>= (λ l. give (record { rights = rights; label = Some l; tree = t }))

-- what a field is of
abbrev pub base_of : Standing → Action Spot
base_of (here rights x n) = read x >>= (λ t. named_spot rights x (without n t))
base_of (led_by t) = guard (is_reference t) (deref t.shape)
base_of nowhere = stuck

-- ---- fields

-- what stands in a node that is met through a reference is unauthorized
abbrev pub inner_rights : Option Authorization → Option Authorization
inner_rights None = None
inner_rights (Some own) = Some Unauthorized

-- a field is written where that is allowed, and else read where that is
abbrev pub may_meet : State → Bool → TypeId → MemberEntry → ℕ → Option Authorization → Bool
may_meet s true id m l rights = may_write s id m.name l
may_meet s false id m l rights = serves s id m rights

abbrev pub field_of : Bool → Name → Spot → Action Standing
field_of writes n spot = λ s.
    with_some (composite_id spot.tree) (λ id.
    with_some (own_member s n id) (λ m.
    with_some spot.label (λ l.
    with_some (position_of n (field_names spot.tree.shape)) (λ i.
    guard (may_meet s writes id m l spot.rights) (give (here (inner_rights spot.rights) (part l i) 0)))))) s

-- ---- elements

abbrev pub may_replace : Bool → Option Authorization → Bool
may_replace true (Some own) = may_replace_elements own
may_replace _ rights = true

abbrev pub element_at : Tree → ℕ → NodeShape → Action Location
element_at index l (array type) = with_some (integer_in index) (λ i. give (element l i))
element_at index l (dictionary key value ks) = give (entry l (value_of index))
element_at index l shape = stuck

abbrev pub element_of : Bool → Tree → Spot → Action Standing
element_of writes index spot =
    guard (may_replace writes spot.rights && (spot.tree.optionals == 0))
    (with_some spot.label (λ l. element_at index l spot.tree.shape >>= (λ x. give (here (inner_rights spot.rights) x 0))))

-- ---- what is done with a place

-- the value there, which stays
abbrev pub value_at : Standing → Action Tree
value_at (here rights x n) = read x >>= (λ t. give (or_nil (without n t)))
value_at (led_by t) = guard (is_reference t) (deref t.shape >>= (λ spot. give spot.tree))
value_at nowhere = stuck

-- where a value is assigned
abbrev pub location_of : Standing → Action Location
location_of (here rights x zero) = give x
location_of _ = stuck

abbrev pub is_variable : Location → Bool
is_variable (variable x) = true
is_variable _ = false

-- `<-x`: the value of a variable leaves it
abbrev pub taken_from : Standing → Action Tree
taken_from (here rights x zero) = guard (is_variable x) (take x)
taken_from _ = stuck

abbrev pub is_owned : Option Authorization → Bool
is_owned None = true
is_owned (Some own) = false

-- `&x as auth(a) &T`, of what is owned
abbrev pub referred_to : Authorization → Bool → Bool → Standing → Action Tree
referred_to a one wraps (here rights x n) = guard (is_owned rights) (read x >>= (λ t. borrowed a x one wraps (without n t)))
referred_to a one wraps _ = stuck

-- ---- receivers

abbrev pub receiver_from : Standing → Action Receiver
receiver_from (here rights x n) = read x >>= (λ t. receiver_with rights x (without n t))
receiver_from (led_by t) = guard (is_reference t) (give (through t.shape))
receiver_from nowhere = stuck

-- the receiver of a chain; none where an optional on the way is nil
abbrev pub receiver_of_chain : Standing → Action (Option Receiver)
receiver_of_chain nowhere = give None
receiver_of_chain place = receiver_from place >>= (λ r. give (Some r))
