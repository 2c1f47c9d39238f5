-- What is known of a World before a run and after it.
use Rattle.std.specs.Prelude.{◌≡◌, ℕ, zero, suc, List, [], ◌∷◌, ◌++◌, map}
use Rattle.cad_loads.specs.Loads.{Source, loaded_of, source_of}
use Rattle.cad_state.specs.Views.{account_of, contract_of}
use Rattle.cad_state.specs.declared.state.Contract.{Contract}
use Rattle.cad_state.specs.declared.state.Known.{Known}
use Rattle.cad_world.specs.Begin.{new_account}
use Rattle.cad_world.specs.Shapes.{shapes}
use Rattle.cad_world.specs.State as s
use Rattle.cad_worlds.specs.Parts.{world_over}
use Rattle.cad_worlds.specs.Standing.{IsSoundButCode, WorldHasBytes}
use Rattle.cad_worlds.specs.declared.part.WorldPart.{WorldPart}

-- ---- contracts

-- its identifier and its code
abbrev pub one_source : Contract → Source
one_source c = source_of (loaded_of (contract_of c))

abbrev pub with_program : s.Contract → s.Contract → s.Contract
with_program c other = record c { program = other.program }

-- the first take the programs of others, one by one
abbrev pub with_programs : ℕ → List s.Contract → List s.Contract → List s.Contract
with_programs zero cs others = cs
with_programs (suc n) (c ∷ cs) (other ∷ others) = with_program c other ∷ with_programs n cs others
with_programs (suc n) cs others = cs

-- ---- Worlds

-- A sound World whose values have bytes, of which something was known, is so with what is known now, where its contracts declare
-- the same.
abbrev pub StaysStanding : WorldPart → WorldPart → Type 0
StaysStanding before after =
    (w : s.World) → IsSoundButCode w → WorldHasBytes w → world_over w.accounts before ≡ w → shapes w.contracts ≡ shapes (map contract_of after.contracts.items)
    → IsSoundButCode (world_over w.accounts after) × WorldHasBytes (world_over w.accounts after)

-- one account more, in which nothing is, is known
pub record HasOneMore (old new : WorldPart) : Type 0 where
  pub one : Known
  pub known : new.known.items ≡ old.known.items ++ one ∷ []
  pub index : one.index ≡ old.count
  pub account : account_of one.account ≡ new_account
  pub count : new.count ≡ suc old.count
  pub contracts : new.contracts ≡ old.contracts
  pub identity : new.next_identity ≡ old.next_identity
