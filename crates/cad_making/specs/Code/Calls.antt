-- States with a call more or less.
use Rattle.std.specs.Prelude.{◌∷◌, Option}
use Rattle.cad_syntax.specs.declared.type_id.TypeId.{TypeId}
use Rattle.cad_world.specs.State.{Frame, State}
use Rattle.cad_evaluation.specs.Bodies.{rest_of}

-- this call is the newest one
abbrev pub with_call : Frame → State → State
with_call f s = record s { frames = f ∷ s.frames }

-- the newest call has ended
abbrev pub without_call : State → State
without_call s = record s { frames = rest_of s.frames }

-- the code of this type is what the call runs
abbrev pub in_type : Option TypeId → Frame → Frame
in_type within f = record f { within = within }
