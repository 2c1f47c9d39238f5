-- Rows of arguments, and the types of parameters.
use Rattle.std.specs.Prelude.{List, map}
use Rattle.std.specs.declared.alloc.Global.{Global}
use Rattle.std.specs.declared.vec.Vec.{Vec}
use Rattle.cad_declarations.specs.declared.member.Parameter.{Parameter}
use Rattle.cad_rows.specs.Views.{pure_row}
use Rattle.cad_rows.specs.declared.tree.Place.{Place}
use Rattle.cad_syntax.specs.Types.{PureType, pure_type}
use Rattle.cad_world.specs.Rows.{Row}

abbrev pub items_row : Vec Place Global → Row
items_row v = pure_row v.items

abbrev pub types_of : List Parameter → List PureType
types_of all = map (λ p. pure_type p.declared) all
