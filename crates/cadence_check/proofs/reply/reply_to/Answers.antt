use Rattle.cadence_check.specs.Verdicts.{Replies, bad_text, no_json}
use Rattle.cadence_check.proofs.Told.{as_told, refuted}
use Rattle.cadence_check.proofs.reply.reply_to.Goals as goal

pub returns-else-is_memory : goal.returns-else-is_memory
returns-else-is_memory c =
    as_told c.bad_text.result (bad_text 21) (Replies c.args.line.now) c.bad_text.ensures
    (no_json (refuted c.args.line.now c.is_memory.result c.if-is_memory.false c.is_memory.ensures c.in-Err.ensures.err))
