-- The shape and the parts of a node at a way in a state are exchanged for others.
use Rattle.std.specs.Prelude.{◌≡◌, Bool, true, List, ℕ, Option, Some}
use Rattle.cad_nodes.specs.Edits.{edited_shape, edited_parts, left_by}
use Rattle.cad_nodes.specs.declared.edit.Edit.{Edit}
use Rattle.cad_nodes.specs.declared.edit.OpenNode.{OpenNode}
use Rattle.cad_rows.specs.Exchanges.{exchanged, shape_of, parts_of}
use Rattle.cad_rows.specs.Views.{pure_row, pure_shape}
use Rattle.cad_world.specs.Rows.{Tree, Found}
use Rattle.cad_world.specs.State.{Account}
use Rattle.cad_state.specs.Views.{state_over}
use Rattle.cad_state.specs.Ways.{is_there, account_in, row_at, reached, with_row}
use Rattle.cad_state.specs.declared.hints.Root.{Root}
use Rattle.cad_state.specs.declared.hints.Root.TheVariants as root
use Rattle.cad_state.specs.declared.state.Accounts.{Accounts}
use Rattle.cad_state.specs.declared.state.RunState.{RunState}

-- whether the run has the account in which a row stands; the other rows are its own
abbrev pub is_held : Root → Accounts → Bool
is_held (root.Stored i) all = is_there (account_in all i)
is_held _ all = true

-- before and after, with what was handed over and what came back
pub record IsExchanged (at_root : Root) (ds : List ℕ) (x y : RunState) (a b : OpenNode) : Type 0 where
  pub state : (accounts : List Account) → state_over accounts y ≡ with_row at_root (exchanged ds (pure_shape a.shape) (pure_row a.parts.items)) accounts x
  pub shape : pure_shape b.shape ≡ shape_of (pure_shape a.shape) (reached ds (row_at at_root x))
  pub parts : pure_row b.parts.items ≡ parts_of (pure_row a.parts.items) (reached ds (row_at at_root x))
  pub held : is_held at_root y.accounts ≡ is_held at_root x.accounts

-- the node that is reached is changed, and something leaves it
pub record IsChangedAt (at_root : Root) (ds : List ℕ) (e : Edit) (f : Found) (o : Option Tree) (x y : RunState) : Type 0 where
  pub left : o ≡ left_by e f.tree.parts
  pub state : (accounts : List Account) → state_over accounts y ≡ with_row at_root (exchanged ds (edited_shape e f.tree.shape) (edited_parts e f.tree.parts)) accounts x

abbrev pub ChangesAt : Root → List ℕ → Edit → Option Tree → RunState → RunState → Type 0
ChangesAt at_root ds e o x y = (f : Found) → reached ds (row_at at_root x) ≡ Some f → IsChangedAt at_root ds e f o x y
