-- A record that grows, and what it stands for.
use Rattle.std.proofs.Common.{◌≡◌, List, [], ◌∷◌, ◌++◌, refl, ◌∙◌, ap}
use Rattle.cad_host.specs.declared.call.Call.{Call}
use Rattle.cad_host.specs.Disk.{Event}
use Rattle.cad_host.specs.Record.{event_of, onto, trace_of}

onto-push : (calls : List Call) (call : Call) (m : List Event) → onto (calls ++ call ∷ []) m ≡ event_of call (onto calls m) ∷ onto calls m
onto-push [] call m = refl
onto-push (c ∷ calls) call m = onto-push calls call (event_of c m ∷ m)

-- one call more is one event more, in front
pub trace_push : (calls new : List Call) (call : Call) → new ≡ calls ++ call ∷ [] → trace_of new ≡ event_of call (trace_of calls) ∷ trace_of calls
trace_push calls new call is = ap trace_of is ∙ onto-push calls call []
