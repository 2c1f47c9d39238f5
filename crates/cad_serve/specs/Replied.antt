-- How many replies were put, and how many are owed.
use Rattle.std.specs.Prelude.{◌≡◌, ℕ, suc, ◌-◌, ◌==◌, List, [], ◌∷◌, length, drop, if◌then◌else◌}
use Rattle.cad_host.specs.Disk.{Event, output, taken}
use Rattle.cad_serve_parts.specs.Lines.{ended}

abbrev pub line_feeds : List ℕ → ℕ
line_feeds [] = 0
line_feeds (b ∷ bytes) = if b == 10 then suc (line_feeds bytes) else line_feeds bytes

-- how many reply lines were put since
abbrev pub acknowledged : List Event → List Event → ℕ
acknowledged old m = line_feeds (output m) - line_feeds (output old)

-- which input was taken since
abbrev pub taken_since : List Event → List Event → List ℕ
taken_since old m = drop (length (taken old)) (taken m)

-- each command that a line feed has ended has its reply
abbrev pub HasReplied : List Event → List Event → Type 0
HasReplied old m = acknowledged old m ≡ length (ended (taken_since old m))
