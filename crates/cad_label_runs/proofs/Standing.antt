-- Standing: labels are kept apart, and values in hand have none.
use Rattle.cad_world.specs.Receivers.{Receiver}
use Rattle.std.specs.Prelude.{ℕ, zero, suc, Bool, true, false, ◌&&◌, ◌==◌, Option, Some, None}
use Rattle.cad_syntax.specs.declared.text.Name.{Name}
use Rattle.cad_syntax.specs.declared.types.Authorization.{Authorization}
use Rattle.cad_world.specs.Rows.{NodeShape, array, dictionary, Tree}
use Rattle.cad_world.specs.State.{Action}
use Rattle.cad_world.specs.Trees.{value_of}
use Rattle.cad_world.specs.Labels.{position_of}
use Rattle.cad_world.specs.Locations.{Location, part, element, entry}
use Rattle.cad_world.specs.Receivers.{through, Spot, is_reference}
use Rattle.cad_evaluation.specs.Access.{own_member}
use Rattle.cad_evaluation.specs.Changing.{Content, nothing, content, no_optional, content_of}
use Rattle.cad_evaluation.specs.Numbers.{integer_in}
use Rattle.cad_evaluation.specs.Reading.{composite_id, field_names}
use Rattle.cad_evaluation.specs.Standing.{Standing, here, led_by, nowhere, without, onward, nil_at, content_with, or_nil, content_at, named_spot, base_of, inner_rights, may_meet, field_of, may_replace, element_at, element_of, value_at, location_of, is_variable, taken_from, is_owned, referred_to, receiver_from, receiver_of_chain}
use Rattle.cad_labels.specs.Laws.{HasNone, Keeps, AnyOne}
use Rattle.cad_world.specs.State.{give}
use Rattle.cad_label_runs.proofs.Casts.{borrowed_keeps}
use Rattle.cad_label_runs.proofs.Receivers.{receiver_with_keeps}
use Rattle.cad_labels.proofs.Forms.{keeps_fail, keeps_give, keeps_guard, keeps_some, keeps_stuck}
use Rattle.cad_labels.proofs.Keeping.{keeps_bind}
use Rattle.cad_labels.proofs.Places.{deref_keeps, naming_keeps, read_keeps, taking_keeps}

pub onward_keeps : (x1 : Standing → Action Standing) (x2 : Standing) → ((y0 : Standing) → Keeps AnyOne (x1 y0)) → Keeps AnyOne (onward x1 x2)
onward_keeps f nowhere h_f = keeps_give {A = Standing} AnyOne nowhere tt
onward_keeps f place h_f = h_f place

pub nil_at_keeps : (x1 : Bool) → Keeps AnyOne (nil_at x1)
nil_at_keeps true = keeps_fail {A = Standing} AnyOne 106
nil_at_keeps false = keeps_give {A = Standing} AnyOne nowhere tt

pub content_with_keeps : (x1 : Bool) (x2 : Option Authorization) (x3 : Location) (x4 : ℕ) (x5 : Content) → Keeps AnyOne (content_with x1 x2 x3 x4 x5)
content_with_keeps forces rights x n nothing = nil_at_keeps forces
content_with_keeps forces rights x n (content t) = keeps_give {A = Standing} AnyOne (here rights x (suc n)) tt
content_with_keeps forces rights x n no_optional = keeps_stuck {A = Standing} AnyOne

pub content_at_keeps : (x1 : Bool) (x2 : Standing) → Keeps AnyOne (content_at x1 x2)
content_at_keeps forces (here rights x n) = keeps_bind AnyOne AnyOne _ _ (read_keeps x) (λ t h_t. content_with_keeps forces rights x n (content_of (or_nil (without n t))))
content_at_keeps forces place = keeps_stuck {A = Standing} AnyOne

pub named_spot_keeps : (x1 : Option Authorization) (x2 : Location) (x3 : Option Tree) → Keeps AnyOne (named_spot x1 x2 x3)
named_spot_keeps rights x None = keeps_stuck {A = Spot} AnyOne
named_spot_keeps rights x (Some t) = keeps_bind AnyOne AnyOne _ (λ l. give (record { rights = rights; label = Some l; tree = t })) (naming_keeps x) (λ l h_l. keeps_give {A = Spot} AnyOne (record { rights = rights; label = Some l; tree = t }) tt)

pub base_of_keeps : (x1 : Standing) → Keeps AnyOne (base_of x1)
base_of_keeps (here rights x n) = keeps_bind AnyOne AnyOne _ _ (read_keeps x) (λ t h_t. named_spot_keeps rights x (without n t))
base_of_keeps (led_by t) = keeps_guard AnyOne (is_reference t) _ (deref_keeps t.shape)
base_of_keeps nowhere = keeps_stuck {A = Spot} AnyOne

pub field_of_keeps : (x1 : Bool) (x2 : Name) (x3 : Spot) → Keeps AnyOne (field_of x1 x2 x3)
field_of_keeps writes n spot = λ s once. (keeps_some AnyOne (composite_id spot.tree) _ (λ id. keeps_some AnyOne (own_member s n id) _ (λ m. keeps_some AnyOne spot.label _ (λ l. keeps_some AnyOne (position_of n (field_names spot.tree.shape)) _ (λ i. keeps_guard AnyOne (may_meet s writes id m l spot.rights) (give (here (inner_rights spot.rights) (part l i) 0)) (keeps_give {A = Standing} AnyOne (here (inner_rights spot.rights) (part l i) 0) tt)))))) s once

pub element_at_keeps : (x1 : Tree) (x2 : ℕ) (x3 : NodeShape) → Keeps AnyOne (element_at x1 x2 x3)
element_at_keeps index l (array type) = keeps_some AnyOne (integer_in index) (λ i. give (element l i)) (λ i. keeps_give {A = Location} AnyOne (element l i) tt)
element_at_keeps index l (dictionary key value ks) = keeps_give {A = Location} AnyOne (entry l (value_of index)) tt
element_at_keeps index l shape = keeps_stuck {A = Location} AnyOne

pub element_of_keeps : (x1 : Bool) (x2 : Tree) (x3 : Spot) → Keeps AnyOne (element_of x1 x2 x3)
element_of_keeps writes index spot = keeps_guard AnyOne (may_replace writes spot.rights && (spot.tree.optionals == 0)) _ (keeps_some AnyOne spot.label _ (λ l. keeps_bind AnyOne AnyOne _ (λ x. give (here (inner_rights spot.rights) x 0)) (element_at_keeps index l spot.tree.shape) (λ x h_x. keeps_give {A = Standing} AnyOne (here (inner_rights spot.rights) x 0) tt)))

pub value_at_keeps : (x1 : Standing) → Keeps AnyOne (value_at x1)
value_at_keeps (here rights x n) = keeps_bind AnyOne AnyOne _ (λ t. give (or_nil (without n t))) (read_keeps x) (λ t h_t. keeps_give {A = Tree} AnyOne (or_nil (without n t)) tt)
value_at_keeps (led_by t) = keeps_guard AnyOne (is_reference t) _ (keeps_bind AnyOne AnyOne _ (λ spot. give spot.tree) (deref_keeps t.shape) (λ spot h_spot. keeps_give {A = Tree} AnyOne spot.tree tt))
value_at_keeps nowhere = keeps_stuck {A = Tree} AnyOne

pub location_of_keeps : (x1 : Standing) → Keeps AnyOne (location_of x1)
location_of_keeps (here rights x zero) = keeps_give {A = Location} AnyOne x tt
location_of_keeps _ = keeps_stuck {A = Location} AnyOne

pub taken_from_keeps : (x1 : Standing) → Keeps HasNone (taken_from x1)
taken_from_keeps (here rights x zero) = keeps_guard HasNone (is_variable x) _ (taking_keeps x)
taken_from_keeps _ = keeps_stuck HasNone

pub referred_to_keeps : (x1 : Authorization) (x2 : Bool) (x3 : Bool) (x4 : Standing) → Keeps HasNone (referred_to x1 x2 x3 x4)
referred_to_keeps a one wraps (here rights x n) = keeps_guard HasNone (is_owned rights) _ (keeps_bind AnyOne HasNone _ _ (read_keeps x) (λ t h_t. borrowed_keeps a x one wraps (without n t)))
referred_to_keeps a one wraps _ = keeps_stuck HasNone

pub receiver_from_keeps : (x1 : Standing) → Keeps AnyOne (receiver_from x1)
receiver_from_keeps (here rights x n) = keeps_bind AnyOne AnyOne _ _ (read_keeps x) (λ t h_t. receiver_with_keeps rights x (without n t))
receiver_from_keeps (led_by t) = keeps_guard AnyOne (is_reference t) (give (through t.shape)) (keeps_give {A = Receiver} AnyOne (through t.shape) tt)
receiver_from_keeps nowhere = keeps_stuck {A = Receiver} AnyOne

pub receiver_of_chain_keeps : (x1 : Standing) → Keeps AnyOne (receiver_of_chain x1)
receiver_of_chain_keeps nowhere = keeps_give {A = Option Receiver} AnyOne None tt
receiver_of_chain_keeps place = keeps_bind AnyOne AnyOne _ (λ r. give (Some r)) (receiver_from_keeps place) (λ r h_r. keeps_give {A = Option Receiver} AnyOne (Some r) tt)
