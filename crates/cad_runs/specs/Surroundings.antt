-- What runs are given from outside: a front end, JSON-Cadence, and how a World is written as bytes.
use Rattle.std.specs.Prelude.{ℕ, List, Option, Some, Result}
use Rattle.std.specs.Result.{result_ok}
use Rattle.cad_syntax.specs.Types.{PureType}
use Rattle.cad_syntax.specs.declared.address.Address.{Address}
use Rattle.cad_declarations.specs.Tables.{ProgramTables}
use Rattle.cad_declarations.specs.declared.stop.Rejected.{Rejected}
use Rattle.cad_values.specs.Values.{PureValue}
use Rattle.cad_world.specs.Fronts.{Front, said}
use Rattle.cad_world.specs.Registers.{Coding}
use Rattle.cad_world.specs.State.{Contract, Program}

pub record Surroundings (Json : Type 0) : Type 0 where
  -- what a code is beside these contracts, at the address of a contract or, without one, as a script or transaction; or the
  -- first place that is refused
  pub load : List Contract → Option Address → List ℕ → Result Program Rejected
  -- the value of the type that a JSON is, by the declarations of a program and of all that it imports
  pub value_of_json : ProgramTables → PureType → Json → Option PureValue
  -- a value as JSON, by what these contracts declare
  pub json_of_value : List Contract → PureValue → Json
  pub coding : Coding

-- the front end by which contracts are added: accepted, or not
abbrev pub front_of : {Json : Type 0} → Surroundings Json → Front
front_of x contracts address code = said (result_ok (x.load contracts (Some address) code))
