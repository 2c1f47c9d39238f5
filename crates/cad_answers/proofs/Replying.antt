-- What the program replies where a script does.
use Rattle.std.proofs.Common.{◌≡◌, refl, sym, ap, subst}
use Rattle.serde_json.specs.Data.{Data}
use Rattle.cad_runs.specs.Commands as runs
use Rattle.cad_run_worlds.specs.Views as script
use Rattle.cad_run_worlds.specs.declared.reply.ScriptReply.{ScriptReply}
use Rattle.cad_run_worlds.specs.declared.reply.ScriptReply.TheVariants as own
use Rattle.cad_answers.specs.Code.Views.{Tells}
use Rattle.cad_answers.specs.declared.reply.Reply.{Reply}
use Rattle.cad_answers.specs.declared.reply.Reply.TheVariants as reply

abbrev pub reply_to : ScriptReply → Reply
reply_to (own.Result text) = reply.Result text
reply_to (own.Failed n) = reply.Failed n
reply_to own.Limit = reply.Limit
reply_to (own.Bad n) = reply.Bad n
reply_to own.IllTyped = reply.IllTyped

pub told : (s : ScriptReply) (r : runs.Reply Data) → script.Tells s r → Tells (reply_to s) r
told (own.Result text) (runs.result json) h = (json, refl, h)
told (own.Failed n) (runs.failed m) h = ap runs.failed (sym h)
told own.Limit runs.limit h = refl
told (own.Bad n) (runs.bad m) h = ap runs.bad (sym h)
told own.IllTyped runs.ill h = refl
told _ _ h = absurd h

-- the same of a reply that is known
pub told_as : (s t : ScriptReply) → s ≡ t → (r : runs.Reply Data) → script.Tells s r → Tells (reply_to t) r
told_as s t is r h = told t r (subst (λ (x : ScriptReply). script.Tells x r) is h)
