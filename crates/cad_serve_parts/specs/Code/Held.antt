-- What is held of a line.
use Rattle.std.specs.Prelude.{◌≡◌, ℕ, List, length, take, nat_lt}
use Rattle.std.specs.List.{list_all}
use Rattle.cad_serve_parts.specs.Lines.{is_blank_byte}
use Rattle.cad_serve_parts.specs.Held.{longest}
use Rattle.cad_serve_parts.specs.declared.line.Line.{Line}

-- the front of a line that came so far, whether it is too long, and whether it is blank
pub record Holds (line : Line) (pending : List ℕ) : Type 0 where
  pub held : line.held.items ≡ take longest pending
  pub long : line.long ≡ nat_lt longest (length pending)
  pub blank : line.blank ≡ list_all is_blank_byte pending
