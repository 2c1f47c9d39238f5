-- Calls from the default arguments of an event keep labels apart.
use Rattle.cad_evaluation.specs.Callees.{method, function, initializer, destroyed_event, Calls}
use Rattle.cad_evaluation.specs.Evaluation.{destroying_nothing}
use Rattle.cad_labels.specs.Laws.{CalleesKeep}

pub destroying_nothing_keeps : (calls : Calls) → CalleesKeep calls → CalleesKeep (destroying_nothing calls)
destroying_nothing_keeps calls keep (method id name l) r none = keep (method id name l) r none
destroying_nothing_keeps calls keep (function name) r none = keep (function name) r none
destroying_nothing_keeps calls keep (initializer id l) r none = keep (initializer id l) r none
destroying_nothing_keeps calls keep (destroyed_event id l) r none = λ s once. tt
