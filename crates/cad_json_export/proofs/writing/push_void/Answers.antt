use Rattle.std.proofs.Common.{◌≡◌}
use Rattle.cad_json_export.proofs.Laws.{void_text}
use Rattle.cad_json_export.proofs.writing.push_void.Goals as goal

pub returns : goal.returns
returns c declared = rw (void_text declared) c.push_str.ensures.ok
