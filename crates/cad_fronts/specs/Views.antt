-- What is known of codes, and what is said by it.
use Rattle.std.specs.Prelude.{ℕ, Bool, ◌&&◌, ◌==◌, Option, Some, None, List, find, map, option_map}
use Rattle.std.specs.Cmp.Lexicographic.{pointwise}
use Rattle.cad_syntax.specs.declared.address.Address.{Address}
use Rattle.cad_fronts.specs.declared.codes.Verdict.{Verdict}
use Rattle.cad_fronts.specs.declared.codes.Verdicts.{Verdicts}
use Rattle.cad_loading.specs.Again.{same_source}
use Rattle.cad_loading.specs.Views.{shared_program}
use Rattle.cad_loads.specs.Fronts.{sources_of}
use Rattle.cad_loads.specs.Loads.{Source}
use Rattle.cad_loads.specs.Views.{source_of}
use Rattle.cad_world.specs.Fronts as fronts
use Rattle.cad_world.specs.Fronts.{Front, said, unknown}
use Rattle.cad_world.specs.State.{Program}

-- a code at an address beside contracts: the program that it is, or that it is refused
pub record Known : Type 0 where
  pub sources : List Source
  pub address : Address
  pub code : List ℕ
  pub program : Option Program

abbrev pub known_of : Verdict → Known
known_of x = record { sources = map source_of x.sources.items; address = x.address; code = x.code; program = option_map shared_program x.checked }

-- whether this is known of a code at an address beside contracts
abbrev pub is_of : List Source → Address → List ℕ → Known → Bool
is_of sources address code k = (k.address.0 == address.0) && (pointwise ◌==◌ k.code code && pointwise same_source k.sources sources)

-- what is known of it
abbrev pub find_known : List Known → List Source → Address → List ℕ → Option Known
find_known all sources address code = find (is_of sources address code) all

abbrev pub said_of : Option Known → fronts.Verdict
said_of None = unknown
said_of (Some k) = said k.program

-- of a code of which nothing is known nothing is said
abbrev pub said_by : List Known → Front
said_by all contracts address code = said_of (find_known all (sources_of contracts) address code)

abbrev pub front_of : Verdicts → Front
front_of x = said_by (map known_of x.all.items)
