-- What contracts that were deployed one after another have to do with each other.
use Rattle.std.specs.Prelude.{◌≡◌, List, map}
use Rattle.cad_loads.specs.Loads.{Loaded, Loads, source_of}

-- codes are loaded to one program each, in whatever orders they were deployed
abbrev pub OneLoading : Type 0
OneLoading = (a b : List Loaded) → Loads a → Loads b → map source_of a ≡ map source_of b → a ≡ b
