-- What a verdict says, and when it is right.
use Rattle.std.specs.Prelude.{◌≡◌, ℕ, Option, Some, None, List, map}
use Rattle.cad_syntax.specs.declared.address.Address.{Address}
use Rattle.cad_declarations.specs.Imports.{ContractEntry}
use Rattle.cad_declarations.specs.declared.stop.Rejected.{Rejected}
use Rattle.cad_acceptance.specs.Stops.{FirstStop}
use Rattle.cad_fronts.specs.Views.{Known}
use Rattle.cad_loads.specs.Loads.{Source, Loaded, Loads, Accepted, source_of, entries_of}
use Rattle.cad_world.specs.State.{Program}

-- the code is accepted as this program at an address beside these, or refused
abbrev pub Says : List ContractEntry → Address → List ℕ → Option Program → Type 0
Says deployed address code (Some p) = Accepted deployed address code p
Says deployed address code None = (r : Rejected) × FirstStop deployed (Some address) code r

-- it is of this code at an address beside these
pub record IsOn (sources : List Source) (address : Address) (code : List ℕ) (k : Known) : Type 0 where
  pub same_sources : k.sources ≡ sources
  pub same_address : k.address ≡ address
  pub same_code : k.code ≡ code

-- it is so beside its contracts, which were deployed one after another
pub record IsSo (k : Known) : Type 0 where
  pub loaded : List Loaded
  pub loads : Loads loaded
  pub sources : map source_of loaded ≡ k.sources
  pub says : Says (entries_of loaded) k.address k.code k.program
