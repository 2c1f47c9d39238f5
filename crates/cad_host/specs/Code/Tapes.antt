-- What three tapes hold.
use Rattle.std.specs.Prelude.{ℕ, List}
use Rattle.cad_host.specs.declared.host.Tape.{Tape}
use Rattle.cad_host.specs.declared.host.Tape.TheVariants.{A, B, Pick}
use Rattle.cad_host.specs.declared.tapes.Tapes.{Tapes}

abbrev pub bytes_on : Tapes → Tape → List ℕ
bytes_on tapes A = tapes.a.items
bytes_on tapes B = tapes.b.items
bytes_on tapes Pick = tapes.pick.items
