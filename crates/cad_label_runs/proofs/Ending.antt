-- Ending: labels are kept apart, and values in hand have none.
use Rattle.cad_syntax.specs.declared.type_id.TypeId.{TypeId}
use Rattle.cad_world.specs.Rows.{composite, Row}
use Rattle.cad_world.specs.Trees.{whole}
use Rattle.cad_world.specs.Declared.{entry_of}
use Rattle.cad_evaluation.specs.Making.{field_names}
use Rattle.cad_evaluation.specs.Ending.{event_of}
use Rattle.cad_labels.specs.Laws.{HasNone, HasNoneInRow, Keeps}
use Rattle.cad_world.specs.State.{give}
use Rattle.cad_labels.proofs.Forms.{keeps_give, keeps_some}

pub event_of_keeps : (x1 : TypeId) (x2 : Row) → HasNoneInRow x2 → Keeps HasNone (event_of x1 x2)
event_of_keeps id r n1 = λ s once. (keeps_some HasNone (entry_of s id) (λ entry. give (whole (composite id 0 (field_names entry.members)) r)) (λ entry. keeps_give HasNone (whole (composite id 0 (field_names entry.members)) r) n1)) s once
