-- Worlds of which some accounts are known: what is kept of what is known while a run changes it, and what stays so.
use Rattle.std.specs.Prelude.{◌≡◌, ℕ, List, ◌++◌, map}
use Rattle.std.specs.List.{flat_map}
use Rattle.cad_state.specs.Views.{contract_of}
use Rattle.cad_state.specs.declared.state.Known.{Known}
use Rattle.cad_world.specs.Shapes.{shapes}
use Rattle.cad_world.specs.State as s
use Rattle.cad_worlds.specs.Parts.{world_over}
use Rattle.cad_worlds.specs.Standing.{IsSoundButCode, WorldHasBytes}
use Rattle.cad_worlds.specs.declared.part.WorldPart.{WorldPart}
use Rattle.cad_world_checks.specs.Identities.{contract_identities, stored_identities}
use Rattle.cad_world_checks.specs.declared.part_summary.PartSummary.{PartSummary}

abbrev pub index_of : Known → ℕ
index_of k = k.index

-- the identities in what a known account stores
abbrev pub known_identities : Known → List ℕ
known_identities k = stored_identities k.account

-- those in all that is known
abbrev pub part_identities : WorldPart → List ℕ
part_identities x = flat_map known_identities x.known.items ++ flat_map contract_identities x.contracts.items

abbrev pub summary : WorldPart → PartSummary
summary x = record { count = x.count; indexes = map index_of x.known.items; identities = part_identities x; next_identity = x.next_identity }

-- a sound World of which this was the summary is sound with what is known now, where its contracts declare the same
abbrev pub StaysSound : PartSummary → WorldPart → Type 0
StaysSound before x =
    (w : s.World) (old : WorldPart) → IsSoundButCode w → world_over w.accounts old ≡ w → before ≡ summary old → shapes w.contracts ≡ shapes (map contract_of x.contracts.items) → IsSoundButCode (world_over w.accounts x)

-- a World whose values have bytes has with what is known now
abbrev pub StaysWithBytes : WorldPart → Type 0
StaysWithBytes x = (w : s.World) → WorldHasBytes w → WorldHasBytes (world_over w.accounts x)
