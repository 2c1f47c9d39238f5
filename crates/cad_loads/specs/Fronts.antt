-- Front ends of which all that they say is right.
use Rattle.std.specs.Prelude.{◌≡◌, ℕ, Some, List, map}
use Rattle.cad_syntax.specs.declared.address.Address.{Address}
use Rattle.cad_declarations.specs.Imports.{ContractEntry}
use Rattle.cad_declarations.specs.declared.stop.Rejected.{Rejected}
use Rattle.cad_acceptance.specs.Stops.{FirstStop}
use Rattle.cad_loads.specs.Loads.{Source, Loaded, Loads, Accepted, source_of, loaded_of, entries_of}
use Rattle.cad_world.specs.Fronts.{Front, accepted, refused}
use Rattle.cad_world.specs.State.{Program, Contract}

-- their addresses, names and codes
abbrev pub sources_of : List Contract → List Source
sources_of contracts = map (λ c. source_of (loaded_of c)) contracts

-- this holds beside these contracts as the programs that their codes are, where they were deployed one after another
pub record Beside (contracts : List Contract) (Holds : List ContractEntry → Type 0) : Type 0 where
  pub loaded : List Loaded
  pub loads : Loads loaded
  pub sources : map source_of loaded ≡ sources_of contracts
  pub holds : Holds (entries_of loaded)

-- What it accepts is accepted as that program, and what it refuses is refused. Of codes of which it says nothing nothing is said.
pub record IsRight (front : Front) : Type 0 where
  pub accepts : (contracts : List Contract) (address : Address) (code : List ℕ) (p : Program) → front contracts address code ≡ accepted p
      → Beside contracts (λ deployed. Accepted deployed address code p)
  pub refuses : (contracts : List Contract) (address : Address) (code : List ℕ) → front contracts address code ≡ refused
      → Beside contracts (λ deployed. (r : Rejected) × FirstStop deployed (Some address) code r)
