-- The first contract with an identifier.
use Rattle.std.specs.Prelude.{◌≡◌, ◌<◌, ℕ, zero, suc, true, false, List, [], ◌∷◌, map, length, get_or}
use Rattle.cad_syntax.specs.TypeIds.{same_id}
use Rattle.cad_syntax.specs.declared.type_id.TypeId.{TypeId}
use Rattle.cad_world.specs.State as s
use Rattle.cad_state.specs.Views.{contract_of}
use Rattle.cad_state.specs.declared.state.Contract.{Contract}

-- none of the first i contracts has the identifier
abbrev pub NotBefore : TypeId → ℕ → List s.Contract → Type 0
NotBefore id zero cs = Unit {0}
NotBefore id (suc i) [] = Unit {0}
NotBefore id (suc i) (c ∷ cs) = (same_id c.id id ≡ false) × NotBefore id i cs

pub record IsFirst (id : TypeId) (i : ℕ) (cs : List Contract) : Type 0 where
  pub before : NotBefore id i (map contract_of cs)
  pub bound : i < length cs
  pub here : (c : Contract) → c ≡ get_or cs i c → same_id c.id id ≡ true
