-- What rows of trees are to the definitions, beside the views of cad_statement_parts and cad_statement_trees.
use Rattle.std.specs.Prelude.{List, map}
use Rattle.std.specs.declared.vec.Vec.{Vec}
use Rattle.std.specs.declared.alloc.Global.{Global}
use Rattle.cad_declarations.specs.Typed as e
use Rattle.cad_declarations.specs.Views as trees
use Rattle.cad_declarations.specs.declared.body.TypedCondition.{TypedCondition}
pub use Rattle.cad_statement_parts.specs.Views.{judged, surroundings_of}

abbrev pub conditions_in : Vec TypedCondition Global → List e.ConditionBody
conditions_in all = map trees.condition_of all.items
