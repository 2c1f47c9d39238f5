-- What the sources of contracts are.
use Rattle.cad_loads.specs.Loads as loads
use Rattle.cad_loads.specs.declared.sources.Source.{Source}

abbrev pub source_of : Source → loads.Source
source_of x = record { id = x.id; code = x.code.value }
