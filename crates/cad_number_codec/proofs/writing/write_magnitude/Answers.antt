use Rattle.std.proofs.Common.{◌/◌, ◌%◌, ◌^◌}
use Rattle.std.proofs.lemmas.Result.{on_ok_weaker}
use Rattle.cad_wire.specs.Fields.{number_field}
use Rattle.cad_number_codec.proofs.Decoded.{written_two}
use Rattle.cad_number_codec.proofs.writing.write_magnitude.Goals as goal

pub returns : goal.returns
returns c =
    let m = c.args.magnitude in
    on_ok_weaker c.number-2.result
    (written_two c.args.writer.now c.number.new.self c.number-2.new.self (number_field (m / 2 ^ 64)) (number_field (m % 2 ^ 64)) c.in_ok-number.ensures.ok)
    c.number-2.ensures.ok
