use Rattle.std.proofs.Common.{◌≡◌, drop, option_map}
use Rattle.cad_rows.specs.Views.{pure_row}
use Rattle.cad_world.specs.Rows.{join}
use Rattle.cad_evaluation.specs.Texts.{bytes_row}
use Rattle.cad_text_operators.proofs.bytes.push_bytes.Given as goal

abbrev pub invariant-loop-byte : goal.invariant-loop-byte
invariant-loop-byte l =
    option_map (join (pure_row l.row.items)) (bytes_row (drop l.byte-index l.bytes)) ≡ option_map (join (pure_row l.fn.row.items)) (bytes_row l.bytes)
