-- Own types of values, and what leads to them.
use Rattle.std.proofs.Common.{◌≡◌, ℕ, Bool, true, false, Option, Some, None, List, option_map, option_and_then, refl, sym, ap, ◌∙◌, subst}
use Rattle.std.proofs.lemmas.Bool.{false≢true}
use Rattle.std.specs.Option.{is_some}
use Rattle.std.specs.Prelude.{Result, Ok, Err, IfOk}
use Rattle.std.specs.declared.alloc.AllocError.{AllocError}
use Rattle.cad_syntax.specs.Types.{PureType, pure_type, reference}
use Rattle.cad_syntax.specs.declared.address.Address.{Address}
use Rattle.cad_syntax.specs.declared.types.Authorization.{Authorization}
use Rattle.cad_syntax.specs.declared.types.CadType.{CadType}
use Rattle.cad_access.specs.OwnTypes.{LeadsThere, LeadsTo}
use Rattle.cad_casts.specs.Settled.{settled, label_in, of_own, tree_there}
use Rattle.cad_evaluation.specs.Casts.{with_type}
use Rattle.cad_evaluation.specs.Containers.{of_type, all_of_type}
use Rattle.cad_labels.specs.Laws.{Keeps, AnyOne}
use Rattle.cad_labels.proofs.Forms.{keeps_done, keeps_give, keeps_or_fail, keeps_require}
use Rattle.cad_outcomes.specs.Outcomes.{Does, Gives}
use Rattle.cad_outcomes.specs.declared.stop.Stop.{Stop}
use Rattle.cad_outcomes.proofs.Steps.{gives_here}
use Rattle.cad_state.specs.Views.{state_over}
use Rattle.cad_state.specs.Ways.{is_there}
use Rattle.cad_state.specs.declared.state.RunState.{RunState}
use Rattle.cad_types.specs.Below.{below}
use Rattle.cad_world.specs.Declared.{declarations}
use Rattle.cad_world.specs.Labels.{at}
use Rattle.cad_types.specs.Optionals.{optionals}
use Rattle.cad_values.specs.Values as v
use Rattle.cad_values.specs.declared.value.Target.{Target}
use Rattle.cad_values.specs.declared.value.Target.TheVariants as to
use Rattle.cad_world.specs.OwnTypes.{controller_at, own_type, solid_type}
use Rattle.cad_world.specs.Rows.{NodeShape, plain, link, array, dictionary, composite, Row, stop, Tree, Found}
use Rattle.cad_world.specs.Locations.{with_found}
use Rattle.cad_rows.specs.Views.{PlaceView, vacant, taken, before}
use Rattle.cad_world.specs.State.{State, Account, ok, failed, bind, Action, ◌>>=◌, ◌>>◌, done, give, or_fail, require}

-- ---- found by a label

pub found_there : (o : Option Found) (s t : State) → t ≡ s → is_there o ≡ true → or_fail 113 o (λ f. done) s ≡ ok tt t
found_there (Some f) s t e h = ap (ok tt) (sym e)
found_there None s t e h = absurd (false≢true h)

pub found_nowhere : (o : Option Found) (s : State) → is_there o ≡ false → or_fail 113 o (λ f. done) s ≡ failed 113
found_nowhere None s h = refl
found_nowhere (Some f) s h = absurd (false≢true (sym h))

-- ---- controllers

pub is_mapped : {A B : Type 0} (f : A → B) (o : Option A) (p : Option B) → option_map f o ≡ p → is_some o ≡ is_some p
is_mapped f None p e = ap is_some e
is_mapped f (Some a) p e = ap is_some e

pub controller_leads : (x : RunState) (a : Authorization) (type : PureType) (target : Target) (address : Address) (n : ℕ) (r : Result Bool AllocError) → target ≡ to.Controller address n
    → IfOk r (λ is. (w : List Account) → is ≡ is_some (controller_at (state_over w x) address.0 n)) → IfOk r (λ is. (w : List Account) → LeadsThere (state_over w x) (v.reference a type target) is)
controller_leads x a type target address n (Ok is) e h = λ w. subst (λ (other : Target). LeadsThere (state_over w x) (v.reference a type other) is) (sym e) (h w)
controller_leads x a type target address n (Err why) e h = tt

pub other_leads : (s : State) (a : Authorization) (type : PureType) (target : Target) → ((address : Address) (n : ℕ) → ¬ (target ≡ to.Controller address n)) → LeadsThere s (v.reference a type target) false
other_leads s a type (to.Controller address n) other = absurd (other address n refl)
other_leads s a type (to.Node l) other = tt
other_leads s a type (to.Stored address n) other = tt
other_leads s a type (to.Account address) other = tt

-- ---- labels that are told

some_is : {p q : ℕ} → Some p ≡ Some q → p ≡ q
some_is {p = p} h = ap (some_or p) h
  where
    some_or : ℕ → Option ℕ → ℕ
    some_or d None = d
    some_or d (Some x) = x

-- ---- what is told of a type

pub told_here : (n : ℕ) (shape : NodeShape) (o : Option NodeShape) (parts : Row) (s : State) (told : Result (Option CadType) AllocError) (r : Result CadType Stop)
    → LeadsTo s shape o
    → IfOk told (λ t. (s : State) (parts : Row) → LeadsTo s shape o → option_map pure_type t ≡ own_type s (record { optionals = n; shape = shape; parts = parts }))
    → ((own : Option PureType) → IfOk told (λ t. option_map pure_type t ≡ own) → Gives pure_type (or_fail 113 own (λ x. give x)) r)
    → Does pure_type (with_type (record { optionals = n; shape = shape; parts = parts }) (λ x. give x)) s s r
told_here n shape o parts s (Ok t) r leads known h = gives_here pure_type _ r s (h (own_type s (record { optionals = n; shape = shape; parts = parts })) (known s parts leads))
told_here n shape o parts s (Err e) r leads known h = gives_here pure_type _ r s (h (own_type s (record { optionals = n; shape = shape; parts = parts })) tt)

-- ---- the label first

pub settled_keeps : (shape : NodeShape) → Keeps AnyOne (settled shape)
settled_keeps (plain v) = keeps_done
settled_keeps (link a l n) = λ s once. keeps_or_fail AnyOne 113 (at l s) (λ f. done) (λ f. keeps_done) s once
settled_keeps (array t) = keeps_done
settled_keeps (dictionary k t ks) = keeps_done
settled_keeps (composite id i ns) = keeps_done

-- a reference to a node has a type only where that is there
link_first : (o : Option Found) (n sees : ℕ) (a : Authorization) (s : State) (p : Action PureType)
    → p s ≡ or_fail 113 (option_map (optionals n) (option_map (reference a) (option_and_then (λ f. option_map (optionals sees) (solid_type f.tree.shape)) o))) (λ own. give own) s
    → p s ≡ bind (or_fail 113 o (λ f. done) s) (λ _. p)
link_first None n sees a s p e = e
link_first (Some f) n sees a s p e = refl

shape_first : (n : ℕ) (shape : NodeShape) (k : Row) (s : State)
    → with_type (record { optionals = n; shape = shape; parts = k }) (λ own. give own) s ≡ (settled shape >> with_type (record { optionals = n; shape = shape; parts = k }) (λ own. give own)) s
shape_first n (plain v) k s = refl
shape_first n (link a l sees) k s = link_first (at l s) n sees a s (with_type (record { optionals = n; shape = link a l sees; parts = k }) (λ own. give own)) refl
shape_first n (array t) k s = refl
shape_first n (dictionary key t ks) k s = refl
shape_first n (composite id i ns) k s = refl

pub settled_first : (t : Tree) (s : State) → with_type t (λ own. give own) s ≡ (settled t.shape >> with_type t (λ own. give own)) s
settled_first t s = shape_first t.optionals t.shape t.parts s

pub own_keeps : (t : Tree) → Keeps AnyOne (with_type t (λ own. give own))
own_keeps t = λ s once. keeps_or_fail AnyOne 113 (own_type s t) (λ own. give own) (λ own. keeps_give AnyOne own tt) s once

-- ---- what a container asks

or_fail_then : {A B : Type 0} (o : Option A) (f : A → Action B) (s : State) → or_fail 113 o f s ≡ (or_fail 113 o (λ a. give a) >>= f) s
or_fail_then None f s = refl
or_fail_then (Some a) f s = refl

pub with_type_then : {A : Type 0} (t : Tree) (f : PureType → Action A) (s : State) → with_type t f s ≡ (with_type t (λ own. give own) >>= f) s
with_type_then t f s = or_fail_then (own_type s t) f s

of_fail : (o : Option PureType) (test : State → PureType → Bool) (s : State)
    → or_fail 113 o (λ own. require 129 (test s own) done) s ≡ (or_fail 113 o (λ own. give own) >>= (λ own s'. require 129 (test s' own) done s')) s
of_fail None test s = refl
of_fail (Some own) test s = refl

pub of_type_then : (type : PureType) (t : Tree) (s : State)
    → of_type type t done s ≡ (with_type t (λ own. give own) >>= (λ own. of_own own type)) s
of_type_then type t s = of_fail (own_type s t) (λ s' own. below (declarations s') own type) s

-- ---- a row, one value after the other

-- what is asked of a place, and then of the row behind it
pub row_then : (type : PureType) (place : PlaceView) (r : Row) (s : State)
    → all_of_type type (before place r) done s ≡ (all_of_type type (before place stop) done >> all_of_type type r done) s
row_then type vacant r s = refl
row_then type (taken l t) r s = of_then (own_type s t) (λ s' own. below (declarations s') own type) (all_of_type type r done) s
  where
    required : (b : Bool) (p : Action (Unit {0})) (s : State) → require 129 b p s ≡ (require 129 b done >> p) s
    required true p s = refl
    required false p s = refl

    of_then : (o : Option PureType) (test : State → PureType → Bool) (p : Action (Unit {0})) (s : State)
        → or_fail 113 o (λ own. require 129 (test s own) p) s ≡ bind (or_fail 113 o (λ own. require 129 (test s own) done) s) (λ _. p)
    of_then None test p s = refl
    of_then (Some own) test p s = required (test s own) p s

pub place_keeps : (type : PureType) (place : PlaceView) → Keeps AnyOne (all_of_type type (before place stop) done)
place_keeps type vacant = keeps_done
place_keeps type (taken l t) = λ s once.
    keeps_or_fail AnyOne 113 (own_type s t) (λ own. require 129 (below (declarations s) own type) done) (λ own. keeps_require AnyOne 129 (below (declarations s) own type) done keeps_done) s once

-- ---- of a shape that is told apart by its label

pub settled_some : (shape : NodeShape) (l : ℕ) (s : State) → Some l ≡ label_in shape → settled shape s ≡ with_found l (λ f. done) s
settled_some (plain v) l s h = absurd (false≢true (sym (ap is_some h)))
settled_some (link a m n) l s h = ap (λ (p : ℕ). with_found p (λ f. done) s) (some_is (sym h))
settled_some (array t) l s h = absurd (false≢true (sym (ap is_some h)))
settled_some (dictionary k t ks) l s h = absurd (false≢true (sym (ap is_some h)))
settled_some (composite id i ns) l s h = absurd (false≢true (sym (ap is_some h)))

pub settled_none : (shape : NodeShape) (s : State) → None ≡ label_in shape → settled shape s ≡ done s
settled_none (plain v) s h = refl
settled_none (link a m n) s h = absurd (false≢true (ap is_some h))
settled_none (array t) s h = refl
settled_none (dictionary k t ks) s h = refl
settled_none (composite id i ns) s h = refl

-- a tree by its optionals and its shape
pub as_whole : (t : Tree) (n : ℕ) (shape : NodeShape) → n ≡ t.optionals → shape ≡ t.shape → record { optionals = n; shape = shape; parts = t.parts } ≡ t
as_whole t n shape e h = ap (λ (m : ℕ). record { optionals = m; shape = shape; parts = t.parts }) e ∙ ap (λ (x : NodeShape). record { optionals = t.optionals; shape = x; parts = t.parts }) h

-- what stands in a place is asked
pub place_asked : (type : PureType) (place : PlaceView) (t : Tree) (s : State) → Some t ≡ tree_there place → all_of_type type (before place stop) done s ≡ of_type type t done s
place_asked type vacant t s e = absurd (false≢true (sym (ap is_some e)))
place_asked type (taken l u) t s e = ap (λ (x : Tree). of_type type x done s) (tree_is (sym e))
  where
    tree_is : {x y : Tree} → Some x ≡ Some y → x ≡ y
    tree_is {x = x} h = ap (tree_or x) h
      where
        tree_or : Tree → Option Tree → Tree
        tree_or d None = d
        tree_or d (Some z) = z

pub nothing_asked : (type : PureType) (place : PlaceView) (s : State) → None ≡ tree_there place → all_of_type type (before place stop) done s ≡ ok tt s
nothing_asked type vacant s e = refl
nothing_asked type (taken l u) s e = absurd (false≢true (ap is_some e))
