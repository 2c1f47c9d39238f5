-- Names that are found by their hashes.
use Rattle.std.specs.Prelude.{◌≡◌, List}
use Rattle.std.specs.HashSet.{HashSet, contains}
use Rattle.cad_syntax.specs.declared.text.Name.{Name}
use Rattle.cad_declarations.specs.Names.{same_name, has_name}

-- a set has the names of a list, and no others
abbrev pub AreKnown : {S : Type 0} → HashSet Name S → List Name → Type 0
AreKnown known names = (name : Name) → contains same_name known name ≡ has_name names name
