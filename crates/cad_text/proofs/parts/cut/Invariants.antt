-- The characters so far that stand between the places.
use Rattle.std.proofs.Common.{◌≡◌, length, take, string_bytes}
use Rattle.std.specs.List.{concat, slice_range}
use Rattle.cad_text.specs.Texts.{characters}
use Rattle.cad_text.proofs.parts.cut.Given as goal

abbrev pub invariant-loop-character : goal.invariant-loop-character
invariant-loop-character l =
    (l.place ≡ length l.yielded) ×
    (string_bytes l.between ≡ concat (slice_range (take (length l.yielded) (characters l.text)) l.from l.up_to))
