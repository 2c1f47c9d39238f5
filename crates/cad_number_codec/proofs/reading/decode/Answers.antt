use Rattle.std.proofs.Common.{[], ◌∙◌}
use Rattle.std.proofs.lemmas.Result.{err_from_is_err_and}
use Rattle.cad_number_codec.proofs.Decoded.{err_whole, to_front}
use Rattle.cad_number_codec.proofs.reading.decode.Goals as goal

pub returns-in_err-value-clause-only : goal.returns-in_err-value-clause-only
returns-in_err-value-clause-only c =
    λ v has e.
    let p = err_from_is_err_and c.from_residual.result c.from_residual.ensures.1 in
    rw (p.1, p.2) (err_whole c.in_err-value.field-0.0 v c.read_value.new.reader (c.in_err-value.ensures.only v [] has (c.new-reader.ensures ∙ to_front v c.args.bytes.now e)))
