-- Sources that are loaded again: which of them are kept with their programs.
use Rattle.std.specs.Prelude.{Bool, true, false, ◌&&◌, ◌==◌, Option, Some, None, List, [], ◌∷◌, if◌then◌else◌}
use Rattle.std.specs.Cmp.Lexicographic.{pointwise}
use Rattle.cad_syntax.specs.TypeIds.{same_id}
use Rattle.cad_loads.specs.Loads.{Source, Loaded, source_of}
use Rattle.cad_world.specs.State.{Program}

-- whether two contracts have one identifier and one code
abbrev pub same_source : Source → Source → Bool
same_source a b = same_id a.id b.id && pointwise ◌==◌ a.code b.code

-- the program of the first that is kept, where it is this source
abbrev pub first_slot : Source → List Loaded → Option Program
first_slot s [] = None
first_slot s (c ∷ kept) = if same_source s (source_of c) then Some c.program else None

-- those that are kept and left behind this source
abbrev pub left_behind : Source → List Loaded → List Loaded
left_behind s [] = []
left_behind s (c ∷ kept) = if same_source s (source_of c) then kept else c ∷ kept

-- a slot for each source, with its program where it is kept, in their order
abbrev pub slots_by : List Source → List Loaded → List (Option Program)
slots_by [] kept = []
slots_by (s ∷ sources) kept = first_slot s kept ∷ slots_by sources (left_behind s kept)

abbrev pub is_none : List Loaded → Bool
is_none [] = true
is_none (c ∷ kept) = false

-- whether all that are kept are among the sources, in their order
abbrev pub all_met : List Source → List Loaded → Bool
all_met [] kept = is_none kept
all_met (s ∷ sources) kept = all_met sources (left_behind s kept)
