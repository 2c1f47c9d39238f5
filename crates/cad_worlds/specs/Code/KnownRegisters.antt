-- The registers that are known with a part of a World.
use Rattle.std.specs.Prelude.{ℕ, zero, suc, ◌<◌, ◌≤◌, ◌==◌, ◌||◌, Bool, false, List, [], ◌∷◌, ◌++◌, map, flat_map, Option, Some, None, is_some}
use Rattle.cad_state.specs.Parts.{known_in}
use Rattle.cad_state.specs.Views.{account_of, contract_of}
use Rattle.cad_state.specs.declared.state.Known.{Known}
use Rattle.cad_wire.specs.Fields.{number_at}
use Rattle.cad_world.specs.Registers.{Register, code_register, fields_registers}
use Rattle.cad_worlds.specs.Sections.{head, of_section}
use Rattle.cad_worlds.specs.Standing.{coding}
use Rattle.cad_worlds.specs.declared.part.WorldPart.{WorldPart}
use Rattle.cad_worlds.specs.declared.writing.Section.{Section}
use Rattle.cad_worlds.specs.declared.writing.Section.TheVariants as section

-- ---- what is known

abbrev pub has_index : List Known → ℕ → Bool
has_index known i = is_some (known_in known i)

abbrev pub indexes_of : List Known → List ℕ
indexes_of known = map (λ (k : Known). k.index) known

-- indexes in order, each once, from one on and below another
abbrev pub StandBetween : ℕ → ℕ → List Known → Type 0
StandBetween i count [] = Unit {0}
StandBetween i count (k ∷ ks) = (i ≤ k.index) × (k.index < count) × StandBetween (suc k.index) count ks

-- ---- registers

-- whether an account is known, by its address
abbrev pub is_known : List Known → ℕ → Bool
is_known known zero = false
is_known known (suc i) = has_index known i

-- by the address at the front of bytes
abbrev pub is_known_at : List Known → Option (ℕ × List ℕ) → Bool
is_known_at known None = false
is_known_at known (Some found) = is_known known found.0

-- how many accounts there are, and what contracts have
abbrev pub is_of_all : ℕ → Bool
is_of_all kind = kind == 0 || (kind == 2 || kind == 3)

-- whether the register of a key is known with a part
abbrev pub is_of_part : List Known → List ℕ → Bool
is_of_part known [] = false
is_of_part known (kind ∷ rest) = is_of_all kind || is_known_at known (number_at rest)

-- of a known account, of one kind
abbrev pub known_section : Section → Known → List Register
known_section kind k = of_section kind (suc k.index) (account_of k.account)

abbrev pub part_registers : WorldPart → List Register
part_registers x =
    let known = x.known.items in
    let contracts = map contract_of x.contracts.items in
    head x.count x.next_identity ++ (flat_map (known_section section.Next) known
    ++ (map code_register contracts ++ (flat_map (fields_registers coding) contracts
    ++ (flat_map (known_section section.Stored) known ++ (flat_map (known_section section.Published) known
    ++ flat_map (known_section section.Controllers) known)))))
