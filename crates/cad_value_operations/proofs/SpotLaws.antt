-- Members of what a receiver is now.
use Rattle.std.proofs.Common.{◌≡◌, ℕ, Bool, true, false, List, ◌++◌, refl, sym, ap, ◌∙◌}
use Rattle.std.specs.Prelude.{Result, Ok, Err, not, if◌then◌else◌}
use Rattle.cad_value_operations.specs.Code.Members.{leaf_member, leaf_of, spot_member}
use Rattle.cad_value_operations.specs.declared.groups.Group.{Group}
use Rattle.cad_value_operations.specs.declared.groups.Group.TheVariants as g
use Rattle.cad_value_operations.specs.declared.groups.NumberMember.TheVariants as n
use Rattle.cad_evaluation.specs.Reading.{copied}
use Rattle.cad_outcomes.proofs.Steps.{stops_same}
use Rattle.cad_outcomes.specs.Outcomes.{Gives}
use Rattle.cad_outcomes.specs.declared.stop.Stop.{Stop}
use Rattle.cad_rows.specs.Views.{pure_tree}
use Rattle.cad_rows.specs.declared.tree.Tree.{Tree as Code}
use Rattle.cad_world.specs.Receivers.{Spot}
use Rattle.cad_world.specs.Rows.{Row, stop, gap, node, Tree, bare, bare_tree, identities, is_none_left, own_identity, tree_owns}
use Rattle.cad_world.specs.State.{State, Action, ok, ill, guard, give}

-- no part is asked
pub leaf_same : (group : Group) (t : Tree) (r : Row) (s : State) → leaf_member group t r s ≡ leaf_member group (leaf_of t) r s
leaf_same g.Nothing t r s = refl
leaf_same g.Service t r s = refl
leaf_same g.Identity t r s = refl
leaf_same g.Owner t r s = refl
leaf_same g.Account t r s = refl
leaf_same g.Search t r s = refl
leaf_same g.Container t r s = refl
leaf_same (g.Text m) t r s = refl
leaf_same g.Character t r s = refl
leaf_same (g.Number n.Told) t r s = refl
leaf_same (g.Number n.Bytes) t r s = refl
leaf_same (g.Number (n.Saturated op)) t r s = refl
leaf_same (g.Address m) t r s = refl
leaf_same g.Identifier t r s = refl
leaf_same g.OwnType t r s = refl
leaf_same g.Instance t r s = refl
leaf_same g.RawValue t r s = refl

pub leaf_group : (group : Group) (spot : Spot) (r : Row) (s : State) → ¬ (group ≡ g.OwnType) → ¬ (group ≡ g.Instance) → ¬ (group ≡ g.RawValue) → spot_member group spot r s ≡ leaf_member group spot.tree r s
leaf_group g.Nothing spot r s x y z = refl
leaf_group g.Service spot r s x y z = refl
leaf_group g.Identity spot r s x y z = refl
leaf_group g.Owner spot r s x y z = refl
leaf_group g.Account spot r s x y z = refl
leaf_group g.Search spot r s x y z = refl
leaf_group g.Container spot r s x y z = refl
leaf_group (g.Text m) spot r s x y z = refl
leaf_group g.Character spot r s x y z = refl
leaf_group (g.Number m) spot r s x y z = refl
leaf_group (g.Address m) spot r s x y z = refl
leaf_group g.Identifier spot r s x y z = refl
leaf_group g.OwnType spot r s x y z = absurd (x refl)
leaf_group g.Instance spot r s x y z = absurd (y refl)
leaf_group g.RawValue spot r s x y z = absurd (z refl)

-- ---- a copy owns what its original does

bare_identities : (r : Row) → identities (bare r) ≡ identities r
bare_identities stop = refl
bare_identities (gap r) = bare_identities r
bare_identities (node l n s k r) =
    ap (λ (x : List ℕ). own_identity s ++ x ++ identities (bare r)) (bare_identities k) ∙ ap (λ (x : List ℕ). own_identity s ++ identities k ++ x) (bare_identities r)

pub bare_owns : (t : Tree) → tree_owns (bare_tree t) ≡ tree_owns t
bare_owns t = ap (λ (x : List ℕ). if is_none_left (own_identity t.shape ++ x) then false else true) (bare_identities t.parts)

-- ---- of values without parts

pub gives_same : (p q : Action Tree) (res : Result Code Stop) → ((s : State) → p s ≡ q s) → Gives pure_tree q res → Gives pure_tree p res
gives_same p q (Ok b) e h = λ s. e s ∙ h s
gives_same p q (Err why) e h = λ s. stops_same (p s) (q s) why (e s) (h s)

pub leaf_told : (group : Group) (t u : Tree) (r : Row) (res : Result Code Stop) → u ≡ leaf_of t → Gives pure_tree (leaf_member group u r) res → Gives pure_tree (leaf_member group t r) res
leaf_told group t u r (Ok b) e h = λ s. leaf_same group t r s ∙ ap (λ (x : Tree). leaf_member group x r s) (sym e) ∙ h s
leaf_told group t u r (Err why) e h = λ s. stops_same _ _ why (leaf_same group t r s ∙ ap (λ (x : Tree). leaf_member group x r s) (sym e)) (h s)

-- ---- copies

copy_owns : (t u : Tree) (b : Bool) → u ≡ bare_tree t → b ≡ tree_owns u → tree_owns t ≡ b
copy_owns t u b e h = sym (bare_owns t) ∙ ap tree_owns (sym e) ∙ sym h

pub copy_kept : (t u : Tree) (b : Bool) (s : State) → u ≡ bare_tree t → b ≡ tree_owns u → b ≡ false → copied t s ≡ ok u s
copy_kept t u b s e h no_resource = ap (λ (x : Bool). guard (not x) (give (bare_tree t)) s) (copy_owns t u b e h ∙ no_resource) ∙ ap (λ (x : Tree). ok x s) (sym e)

pub copy_refused : (t u : Tree) (b : Bool) (s : State) → u ≡ bare_tree t → b ≡ tree_owns u → b ≡ true → copied t s ≡ ill
copy_refused t u b s e h resource = ap (λ (x : Bool). guard (not x) (give (bare_tree t)) s) (copy_owns t u b e h ∙ resource)
