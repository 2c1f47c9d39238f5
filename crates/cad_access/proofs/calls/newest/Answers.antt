use Rattle.std.proofs.Common.{◌-◌, List, length, slice_get, ap, ◌∙◌}
use Rattle.cad_state.specs.Views.{frame_of}
use Rattle.cad_state.specs.declared.state.Call.{Call}
use Rattle.cad_access.proofs.NewestCall.{last_is}
use Rattle.cad_access.proofs.calls.newest.Goals as goal

pub returns : goal.returns
returns c = last_is frame_of c.args.state.now.calls.items c.last.result (c.last.ensures.value ∙ ap (λ (calls : List Call). slice_get calls (length calls - 1)) c.as_slice.ensures.value)
