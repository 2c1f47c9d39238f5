use Rattle.std.proofs.Common.{ap, sym, ◌∙◌}
use Rattle.cad_keys.specs.Code.Hashes.{with_bytes}
use Rattle.cad_keys.proofs.Tests.{ascii_form}
use Rattle.cad_keys.proofs.hashes.text_hash.Goals as goal

pub returns-then-is_ascii : goal.returns-then-is_ascii
returns-then-is_ascii c = c.bytes_hash.ensures ∙ ap (with_bytes 0) (c.as_bytes.ensures.value ∙ sym (ascii_form c.args.text.now c.if-is_ascii.ensures.cases))
