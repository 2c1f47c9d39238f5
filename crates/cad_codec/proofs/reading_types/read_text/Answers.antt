use Rattle.std.proofs.Common.{◌∙◌}
use Rattle.cad_codec.proofs.Texts.{text_found, text_none}
use Rattle.cad_codec.proofs.reading_types.read_text.Goals as goal

pub returns-in_ok-from_str-in-Ok : goal.returns-in_ok-from_str-in-Ok
returns-in_ok-from_str-in-Ok c =
    text_found c.args.reader.now c.in_ok-bytes.bytes.now c.in_ok-from_str-in-Ok.field-0 c.bytes.new.self c.in_ok-bytes.ensures.ok c.in-Ok.ensures.cases.1 (c.in_ok-from_str-in-Ok.ensures ∙ c.in-Ok.ensures.cases.0)

pub returns-in-Err : goal.returns-in-Err
returns-in-Err c = text_none c.args.reader.now c.in_ok-bytes.bytes.now c.bytes.new.self c.in_ok-bytes.ensures.ok c.in-Err.ensures.cases.0
