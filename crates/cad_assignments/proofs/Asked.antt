-- A value is asked before it comes to a container.
use Rattle.std.proofs.Common.{◌≡◌, ℕ, Bool, true, false, Option, Some, None, refl, sym, ap, ◌∙◌}
use Rattle.cad_syntax.specs.Types.{PureType}
use Rattle.cad_types.specs.Below.{below}
use Rattle.cad_labels.specs.Laws.{Keeps, AnyOne}
use Rattle.cad_labels.proofs.Forms.{keeps_done, keeps_give, keeps_some}
use Rattle.cad_labels.proofs.Keeping.{keeps_bind}
use Rattle.cad_labels.proofs.Places.{found_keeps, type_gives}
use Rattle.cad_world.specs.Declared.{declarations}
use Rattle.cad_world.specs.Labels.{at}
use Rattle.cad_world.specs.OwnTypes.{own_type}
use Rattle.cad_world.specs.Rows.{Tree, Found}
use Rattle.cad_world.specs.State.{State, Action, bind, ◌>>◌, give, done, or_fail, require, with_some}
use Rattle.cad_evaluation.specs.Containers.{of_type}
use Rattle.cad_assignments.specs.Code.Fills.{type_within, type_in, asked}
use Rattle.cad_assignments.specs.declared.asking.Inner.{Inner}

required_then : {A : Type 0} (e : ℕ) (b : Bool) (p : Action A) (s : State) → require e b p s ≡ bind (require e b done s) (λ _ v. p v)
required_then e true p s = refl
required_then e false p s = refl

-- the test of a type comes first, and changes nothing
pub type_then : {A : Type 0} (type : PureType) (t : Tree) (p : Action A) (s : State) → of_type type t p s ≡ (of_type type t done >> p) s
type_then {A = A} type t p s = go (own_type s t)
  where
    go : (o : Option PureType) → or_fail 113 o (λ own. require 129 (below (declarations s) own type) p) s ≡ bind (or_fail 113 o (λ own. require 129 (below (declarations s) own type) done) s) (λ _ v. p v)
    go None = refl
    go (Some own) = required_then 129 (below (declarations s) own type) p s

-- what comes then may be told as it is in this state
pub type_same : {A : Type 0} (type : PureType) (t : Tree) (p q : Action A) (s : State) → p s ≡ q s → of_type type t p s ≡ of_type type t q s
type_same {A = A} type t p q s e = go (own_type s t)
  where
    by : (b : Bool) → require 129 b p s ≡ require 129 b q s
    by true = e
    by false = refl

    go : (o : Option PureType) → or_fail 113 o (λ own. require 129 (below (declarations s) own type) p) s ≡ or_fail 113 o (λ own. require 129 (below (declarations s) own type) q) s
    go None = refl
    go (Some own) = by (below (declarations s) own type)

asked_is : (inner : Inner) (l : ℕ) (t : Tree) (f : Found) (type : PureType) (s : State) → at l s ≡ Some f → type_within inner f.tree.shape ≡ Some type → asked inner l t s ≡ of_type type t done s
asked_is inner l t f type s e d =
    ap (λ o. bind (or_fail 113 o (λ g. with_some (type_within inner g.tree.shape) (λ u. give u)) s) (λ u v. of_type u t done v)) e
    ∙ ap (λ o. bind (with_some o (λ u. give u) s) (λ u v. of_type u t done v)) d

-- of the container that is there
pub asked_then : {A : Type 0} (inner : Inner) (l : ℕ) (t : Tree) (p : Action A) (f : Found) (type : PureType) (s : State) → at l s ≡ Some f → type_within inner f.tree.shape ≡ Some type
    → of_type type t p s ≡ (asked inner l t >> p) s
asked_then inner l t p f type s e d = type_then type t p s ∙ sym (ap (λ r. bind r (λ _ v. p v)) (asked_is inner l t f type s e d))

pub type_in_keeps : (inner : Inner) (l : ℕ) → Keeps AnyOne (type_in inner l)
type_in_keeps inner l = found_keeps AnyOne l (λ f. with_some (type_within inner f.tree.shape) (λ type. give type))
    (λ f. keeps_some AnyOne (type_within inner f.tree.shape) (λ type. give type) (λ type. keeps_give AnyOne type tt))

pub asked_keeps : (inner : Inner) (l : ℕ) (t : Tree) → Keeps AnyOne (asked inner l t)
asked_keeps inner l t = keeps_bind AnyOne AnyOne (type_in inner l) (λ type. of_type type t done) (type_in_keeps inner l) (λ type any s once. type_gives AnyOne type t done s (keeps_done s once))
