use Rattle.std.proofs.Common.{arith, option_map}
use Rattle.cad_rows.specs.Views.{pure_row}
use Rattle.cad_world.specs.Rows.{join}
use Rattle.cad_evaluation.specs.Texts.{bytes_row}
use Rattle.cad_text_operators.proofs.Rows.{push_next, push_done}
use Rattle.cad_text_operators.proofs.bytes.push_bytes.Goals as goal

pub loop-byte-preserved : goal.loop-byte-preserved
loop-byte-preserved c =
    push_next c.loop-byte.byte-index c.args.bytes.now c.loop-byte.row.items c.push_place.new.row.items c.byte_place.result
    (option_map (join (pure_row c.args.row.now.items)) (bytes_row c.args.bytes.now)) (omega arith) c.in_ok-push_place.ensures c.byte_place.ensures c.loop-byte.invariant

pub returns : goal.returns
returns c =
    push_done c.loop-byte.byte-index c.args.bytes.now c.loop-byte.row.items (option_map (join (pure_row c.args.row.now.items)) (bytes_row c.args.bytes.now)) (omega arith) c.loop-byte.invariant
