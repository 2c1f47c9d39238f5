-- What is met through a receiver is met with the rights of the receiver, so whether it may be used is known before it is looked at.
use Rattle.std.proofs.Common.{◌≡◌, ℕ, Bool, true, false, [], Option, Some, None, Result, ap, refl, sym, ◌∙◌, subst}
use Rattle.std.specs.Option.{is_some}
use Rattle.cad_syntax.specs.Types.{PureType}
use Rattle.cad_syntax.specs.declared.types.Authorization.{Authorization}
use Rattle.cad_types.specs.Below.{below}
use Rattle.cad_types.specs.declared.builtin.Builtin.{Builtin}
use Rattle.cad_declarations.specs.Builtins.{needed}
use Rattle.cad_values.specs.Values.{PureValue}
use Rattle.cad_values.specs.Values as v
use Rattle.cad_values.specs.declared.value.Target.{Target}
use Rattle.cad_values.specs.declared.value.Target.TheVariants as to
use Rattle.cad_evaluation.specs.Access.{has_right}
use Rattle.cad_evaluation.specs.Builtins.{member}
use Rattle.cad_evaluation.specs.Callees.{Calls, Front}
use Rattle.cad_outcomes.specs.declared.stop.Stop.{Stop}
use Rattle.cad_rows.specs.Views.{pure_tree}
use Rattle.cad_rows.specs.declared.tree.Tree as code
use Rattle.cad_state.specs.Views.{state_over, FindsAndCarriesOut}
use Rattle.cad_state.specs.declared.state.RunState.{RunState}
use Rattle.cad_state.proofs.Finding.{find_same}
use Rattle.cad_world.specs.Declared.{declarations}
use Rattle.cad_world.specs.Labels.{at, stored_slot}
use Rattle.cad_world.specs.Locations.{Location, stored, name}
use Rattle.cad_world.specs.OwnTypes.{own_type, controller_at}
use Rattle.cad_world.specs.Receivers.{Receiver, standing, through, absent, Spot, spot_at, stored_spot, spot_by, plain_spot, deref, look_at}
use Rattle.cad_world.specs.Rows.{NodeShape, plain, link, array, dictionary, composite, Row, stop, Tree, Slot, out, free, full, Found}
use Rattle.cad_world.specs.State.{State, Outcome, ok, failed, limit, ill, bind, Action, ◌>>=◌, give, guard, require, or_fail}
use Rattle.cad_expression_leaves.specs.Code.Rights.{rights_in_value, rights_in, rights_of, read_if, refused}
use Rattle.cad_expression_leaves.specs.Code.Steps.{member_read}

-- where there is a spot, it is met with these rights
abbrev MetWith : Option Authorization → Outcome Spot → Type 0
MetWith a (ok spot s) = spot.rights ≡ a
MetWith a (failed n) = Unit {0}
MetWith a limit = Unit {0}
MetWith a ill = Unit {0}

bind_met : {A : Type 0} (a : Option Authorization) (o : Outcome A) (f : A → Action Spot) → ((x : A) (s : State) → MetWith a (f x s)) → MetWith a (bind o f)
bind_met a (ok x s) f h = h x s
bind_met a (failed n) f h = tt
bind_met a limit f h = tt
bind_met a ill f h = tt

fail_met : {A : Type 0} (a : Option Authorization) (e : ℕ) (o : Option A) (f : A → Action Spot) (s : State) → ((x : A) → MetWith a (f x s)) → MetWith a (or_fail e o f s)
fail_met a e (Some x) f s h = h x
fail_met a e None f s h = tt

require_met : (a : Option Authorization) (e : ℕ) (b : Bool) (p : Action Spot) (s : State) → MetWith a (p s) → MetWith a (require e b p s)
require_met a e true p s h = h
require_met a e false p s h = tt

node_met : (a : Option Authorization) (l n : ℕ) (s : State) → MetWith a (spot_at a l n s)
node_met a l n s = fail_met {A = Found} a 113 (at l s) (λ f. give {A = Spot} (record { rights = a; label = Some l; tree = record (f.tree) { optionals = n } })) s (λ f. refl)

stored_met : (a : Authorization) (type : PureType) (x : Location) (o : Slot) (s : State) → MetWith (Some a) (stored_spot a type x o s)
stored_met a type x (full t) s =
    let named : Action Spot = name x >>= (λ l. spot_at (Some a) l t.optionals) in
    fail_met (Some a) 113 (own_type s t) (λ own. require 114 (below (declarations s) own type) named) s
    (λ own. require_met (Some a) 114 (below (declarations s) own type) named s
    (bind_met (Some a) (name x s) (λ l. spot_at (Some a) l t.optionals) (λ l w. node_met (Some a) l t.optionals w)))
stored_met a type x free s = tt
stored_met a type x out s = tt

target_met : (a : Authorization) (type : PureType) (own : PureValue) (target : Target) (s : State) → MetWith (Some a) (spot_by a type own target s)
target_met a type own (to.Node l) s = tt
target_met a type own (to.Stored address n) s = stored_met a type (stored address.0 n) (stored_slot s address.0 n) s
target_met a type own (to.Account address) s = refl
target_met a type own (to.Controller address n) s =
    require_met (Some a) 113 (is_some (controller_at s address.0 n)) (give {A = Spot} (record { rights = Some a; label = None; tree = record { optionals = 0; shape = plain own; parts = stop } })) s refl

value_met : (value : PureValue) (s : State) → MetWith (rights_in_value value) (plain_spot value s)
value_met (v.reference a type target) s = target_met a type (v.reference a type target) target s
value_met v.void s = tt
value_met v.nil s = tt
value_met (v.some x) s = tt
value_met (v.bool b) s = tt
value_met (v.number n) s = tt
value_met (v.string text) s = tt
value_met (v.character text) s = tt
value_met (v.address a) s = tt
value_met (v.path p) s = tt
value_met (v.meta type) s = tt
value_met (v.capability a n type) s = tt
value_met (v.array type vs) s = tt
value_met (v.dictionary key type es) s = tt
value_met (v.composite id n fs) s = tt

shape_met : (shape : NodeShape) (s : State) → MetWith (rights_in shape) (deref shape s)
shape_met (link a l n) s = node_met (Some a) l n s
shape_met (plain value) s = value_met value s
shape_met (array type) s = tt
shape_met (dictionary key type ks) s = tt
shape_met (composite id i names) s = tt

met : (r : Receiver) (s : State) → MetWith (rights_of r) (look_at r s)
met (standing rights l n) s = node_met rights l n s
met (through shape) s = shape_met shape s
met absent s = refl

guarded : (a : Option Authorization) (need : Authorization) (o : Outcome Spot) (f : Spot → Action Tree) → MetWith a o
    → bind o (λ spot. guard (has_right spot.rights need) (f spot)) ≡ bind o (λ spot. guard (has_right a need) (f spot))
guarded a need (ok spot s) f is = ap (λ own. guard (has_right own need) (f spot) s) is
guarded a need (failed n) f is = refl
guarded a need limit f is = refl
guarded a need ill f is = refl

module _ (front : Front) (calls : Calls) (b : Builtin) (r : Receiver) where
  read_same : (may : Bool) → may ≡ has_right (rights_of r) (needed b) → (s : State) → member_read front calls b r s ≡ read_if front calls b r may s
  unfolding member_read read_if
  read_same may told s =
      guarded (rights_of r) (needed b) (look_at r s) (λ spot. member front calls b [] spot stop) (met r s)
      ∙ ap (λ (x : Bool). bind (look_at r s) (λ spot. guard x (member front calls b [] spot stop))) (sym told)

  read_as : (may known : Bool) (x z : RunState) (res : Result code.Tree Stop) → may ≡ known → may ≡ has_right (rights_of r) (needed b)
      → FindsAndCarriesOut pure_tree (read_if front calls b r known) x z res → FindsAndCarriesOut pure_tree (member_read front calls b r) x z res
  read_as may known x z res is told h =
      find_same pure_tree (member_read front calls b r) (read_if front calls b r known) x z res (λ w ready. read_same known (sym is ∙ told) (state_over w x)) h

  -- with the rights the member is what it gives
  pub read_granted : (may : Bool) (row : Row) (x z : RunState) (res : Result code.Tree Stop) → may ≡ true → may ≡ has_right (rights_of r) (needed b) → row ≡ stop
      → FindsAndCarriesOut pure_tree (look_at r >>= (λ spot. member front calls b [] spot row)) x z res → FindsAndCarriesOut pure_tree (member_read front calls b r) x z res
  unfolding read_if
  read_granted may row x z res is told bare h =
      read_as may true x z res is told (subst (λ (q : Row). FindsAndCarriesOut pure_tree (look_at r >>= (λ spot. member front calls b [] spot q)) x z res) bare h)

  -- without them it is refused
  pub read_refused : (may : Bool) (x z : RunState) (res : Result code.Tree Stop) → may ≡ false → may ≡ has_right (rights_of r) (needed b)
      → FindsAndCarriesOut pure_tree (refused r) x z res → FindsAndCarriesOut pure_tree (member_read front calls b r) x z res
  unfolding read_if
  read_refused may x z res is told h = read_as may false x z res is told h
