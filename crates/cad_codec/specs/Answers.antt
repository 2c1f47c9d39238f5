-- What a reader of bytes answers.
use Rattle.std.specs.Prelude.{◌≡◌, Option, Some, None, Result, Ok, Err}
use Rattle.cad_wire.specs.declared.error.DecodeError.{DecodeError}
use Rattle.cad_wire.specs.declared.error.DecodeError.TheVariants.{Damaged, Memory}

-- What a call returned, seen by a view, is what is read, unless memory ran out.
abbrev pub GivesAs : {A B : Type 0} → (A → B) → Result A DecodeError → Option B → Type 0
GivesAs view (Ok x) read = read ≡ Some (view x)
GivesAs view (Err Damaged) read = read ≡ None
GivesAs view (Err Memory) read = Unit {0}
