-- What front ends that are right have to do with each other.
use Rattle.cad_bounds.specs.Fronts.{Extends, join}
use Rattle.cad_loads.specs.Fronts.{IsRight}
use Rattle.cad_world.specs.Fronts.{Front}

-- two of them are joined to one that says what each of them says
abbrev pub OneVerdict : Type 0
OneVerdict = (f g : Front) → IsRight f → IsRight g → Extends f (join f g) × Extends g (join f g)
