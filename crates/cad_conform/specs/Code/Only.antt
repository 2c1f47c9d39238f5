-- The only one of a list, while it is looked through.
use Rattle.std.specs.Prelude.{Option, Some, None, List, [], ◌∷◌}
use Rattle.cad_declarations.specs.Meets.{only}

-- the only one of a list behind one that may have been found
abbrev pub only_behind : {X : Type 0} → Option X → List X → Option X
only_behind None xs = only xs
only_behind (Some x) [] = Some x
only_behind (Some x) (y ∷ more) = None
