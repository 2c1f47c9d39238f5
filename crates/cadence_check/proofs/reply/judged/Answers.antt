use Rattle.serde_json.specs.View.{view}
use Rattle.cadence_check.specs.Views.{verdict_of}
use Rattle.cadence_check.proofs.Told.{judged_so, not_asked}
use Rattle.cadence_check.proofs.reply.judged.Goals as goal

pub returns-in_ok-verdict-in-Ok : goal.returns-in_ok-verdict-in-Ok
returns-in_ok-verdict-in-Ok c =
    judged_so (view c.args.request.now) _ c.in-Ok.asked c.as_slice.result.now (verdict_of c.in_ok-verdict-in-Ok.verdict) c.verdict_text.result c.in-Ok.is c.in_ok-asked.ensures
    c.as_slice.ensures.value c.in_ok-verdict-in-Ok.ensures c.verdict_text.ensures

pub returns-in-Err : goal.returns-in-Err
returns-in-Err c = not_asked (view c.args.request.now) _ c.in-Err.number c.bad_text.result c.in-Err.is c.in_ok-asked.ensures c.bad_text.ensures
