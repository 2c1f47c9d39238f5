use Rattle.std.proofs.Common.{◌≡◌, ◌++◌, drop, option_map}
use Rattle.cad_rows.specs.Views.{pure_row}
use Rattle.cad_evaluation.specs.Texts.{bytes_in_row}
use Rattle.cad_text_operators.proofs.bytes.bytes_in_row.Given as goal

abbrev pub invariant-loop-place : goal.invariant-loop-place
invariant-loop-place l =
    option_map (λ xs. l.bytes ++ xs) (bytes_in_row (pure_row (drop l.place-index l.row))) ≡ bytes_in_row (pure_row l.row)
