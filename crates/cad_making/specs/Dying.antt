-- The end of a resource, in two parts: what is done before its events are made, and after.
use Rattle.std.specs.Prelude.{ℕ, List, ◌++◌}
use Rattle.cad_syntax.specs.declared.type_id.TypeId.{TypeId}
use Rattle.cad_world.specs.Rows.{Tree, alone, back, tree_identities}
use Rattle.cad_world.specs.State.{State, Action, ok, ◌>>◌, give}
use Rattle.cad_world.specs.Transfers.{charged}
use Rattle.cad_evaluation.specs.Ending.{is_told_of, passing, set_aside}
use Rattle.cad_making.specs.declared.dying.Dying.{Dying as Held}

-- the first label of the nodes whose end is told, their types, and the identities that end
pub record Dying : Type 0 where
  pub first_label : ℕ
  pub types : List TypeId
  pub identities : List ℕ

abbrev pub dying_of : Held → Dying
dying_of x = record { first_label = x.first_label; types = x.types; identities = x.identities }

abbrev pub end_of : State → Tree → Dying
end_of s t = record { first_label = s.next_label; types = passing (is_told_of s) (alone t); identities = tree_identities t }

-- what is destroyed stands among what is made
abbrev pub laid_out : Tree → Action Dying
laid_out t = charged t >> (λ s. (set_aside t >> give (end_of s t)) s)

-- it goes, and its identities join those that were destroyed
abbrev pub buried : Dying → Action (Unit {0})
buried d = λ s. ok tt (record s { making = back 1 s.making; destroyed = s.destroyed ++ d.identities })
