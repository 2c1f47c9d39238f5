-- A record of calls, the oldest first, as events.
use Rattle.std.specs.Prelude.{ℕ, ◌/◌, List, [], ◌∷◌, length, take}
use Rattle.cad_host.specs.declared.host.Tape.{Tape}
use Rattle.cad_host.specs.declared.call.Call.{Call}
use Rattle.cad_host.specs.declared.call.Call.TheVariants.{Wrote, BrokeWrite, Synced, BrokeSync, Filled, Put, PutPart, Took, TakeFailed, LookFailed}
use Rattle.cad_host.specs.Disk.{Event, wrote, synced, broke, filled, put, put_part, took, take_failed, look_failed, reads, overwritten}

-- what a tape reads once the first half of these bytes is put there
abbrev pub half_written : List ℕ → ℕ → List ℕ → List ℕ
half_written old at bytes = overwritten old at (take (length bytes / 2) bytes)

-- a call behind these events
abbrev pub event_of : Call → List Event → Event
event_of (Wrote tape at bytes) m = wrote tape at bytes.items
event_of (BrokeWrite tape at bytes) m = broke tape at (length bytes.items) (half_written (reads m tape) at bytes.items)
event_of (Synced tape) m = synced tape
event_of (BrokeSync tape) m = broke tape 0 0 (reads m tape)
event_of (Filled tape bytes) m = filled tape bytes.items
event_of (Put bytes) m = put bytes.items
event_of (PutPart bytes) m = put_part bytes.items
event_of (Took bytes) m = took bytes.items
event_of TakeFailed m = take_failed
event_of (LookFailed tape) m = look_failed tape

abbrev pub onto : List Call → List Event → List Event
onto [] m = m
onto (call ∷ calls) m = onto calls (event_of call m ∷ m)

abbrev pub trace_of : List Call → List Event
trace_of calls = onto calls []
