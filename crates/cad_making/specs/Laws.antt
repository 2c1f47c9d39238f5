-- Laws of the end of resources.
use Rattle.std.specs.Prelude.{◌≡◌, ℕ, List}
use Rattle.cad_syntax.specs.declared.type_id.TypeId.{TypeId}
use Rattle.cad_world.specs.Rows.{Tree}
use Rattle.cad_world.specs.State.{State, Action, ◌>>=◌, ◌>>◌}
use Rattle.cad_evaluation.specs.Callees.{Calls}
use Rattle.cad_evaluation.specs.Ending.{destroyed, events_of, all_emitted}
use Rattle.cad_labels.specs.Laws.{AnyOne, CalleesKeep, HasNone, Keeps}
use Rattle.cad_making.specs.Dying.{Dying, laid_out, buried}

-- what is done with a resource that is laid out: the events of its nodes are made from the first label on, and emitted; then it is buried
abbrev pub told_and_buried : Calls → Dying → Action (Unit {0})
told_and_buried calls d = events_of calls d.first_label d.types >>= (λ events. all_emitted events >> buried d)

abbrev pub EndsByParts : Type 0
EndsByParts = (calls : Calls) (t : Tree) (s : State) → destroyed calls t s ≡ (laid_out t >>= told_and_buried calls) s

-- Where each label stands once, it does so behind these.
abbrev pub LayingOutKeeps : Type 0
LayingOutKeeps = (t : Tree) → HasNone t → Keeps AnyOne (laid_out t)

abbrev pub EventsKeep : Type 0
EventsKeep = (calls : Calls) → CalleesKeep calls → (l : ℕ) (ids : List TypeId) → Keeps AnyOne (events_of calls l ids)

abbrev pub BurialKeeps : Type 0
BurialKeeps = (d : Dying) → Keeps AnyOne (buried d)
