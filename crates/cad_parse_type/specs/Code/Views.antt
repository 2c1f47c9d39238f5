-- What the readers give, without where it lies in memory.
use Rattle.std.specs.Prelude.{List, map}
use Rattle.std.specs.Borrow.{Bor}
use Rattle.std.specs.declared.vec.Vec.{Vec}
use Rattle.std.specs.declared.alloc.Global.{Global}
use Rattle.cad_syntax.specs.declared.text.Name.{Name}
use Rattle.cad_grammar.specs.Spots.{Spot}
use Rattle.cad_grammar.specs.Trees.{Annotation}
use Rattle.cad_grammar.specs.Views.{annotation_of}
use Rattle.cad_grammar.specs.declared.type_expr.TypeAnnotation.{TypeAnnotation}
use Rattle.cad_parse_type.specs.declared.spot.Spot as code

unfoldable pub seen : code.Spot → Spot
seen p = record { left = p.left; after_name = p.after_name; tokens = p.tokens.now }

abbrev pub seen_with : {A B : Type 0} → (A → B) → A × code.Spot → B × Spot
seen_with view x = (view x.0, seen x.1)

abbrev pub annotations_in : Vec TypeAnnotation Global → List Annotation
annotations_in v = map annotation_of v.items

abbrev pub seen_name : Bor Name → Name
seen_name n = n.now
