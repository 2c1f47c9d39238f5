-- What loading answers.
use Rattle.std.specs.Prelude.{◌≡◌, Option, Some, None, List, map, length}
use Rattle.cad_loads.specs.Loads.{Source, Loaded, Loads, loaded_by, source_of}
use Rattle.cad_world.specs.State.{Program}

-- a program for each source, as which they were deployed one after another, or they weren't
abbrev pub Loading : List Source → Option (List Program) → Type 0
Loading sources None = (contracts : List Loaded) → map source_of contracts ≡ sources → Loads contracts → ⊥
Loading sources (Some programs) = (length programs ≡ length sources) × Loads (loaded_by sources programs)
