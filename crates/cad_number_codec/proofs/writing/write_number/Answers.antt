use Rattle.std.proofs.lemmas.Result.{on_ok_weaker}
use Rattle.cad_number_codec.specs.Spelling.{kind_byte, sign_byte, magnitude_field}
use Rattle.cad_number_codec.proofs.Decoded.{written}
use Rattle.cad_number_codec.proofs.writing.write_number.Goals as goal

pub returns : goal.returns
returns c =
    let n = c.args.n in
    on_ok_weaker c.write_magnitude.result
    (written c.args.writer.now c.byte.new.self c.byte-2.new.self c.byte-3.new.self c.write_magnitude.new.writer (magnitude_field n.magnitude) 4 (kind_byte n.kind) (sign_byte n.negative) c.kind_byte.result c.sign_byte.result c.in_ok-byte.ensures.ok c.in_ok-byte-2.ensures.ok c.kind_byte.ensures c.in_ok-byte-3.ensures.ok c.sign_byte.ensures)
    c.write_magnitude.ensures
