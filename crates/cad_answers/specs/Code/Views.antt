-- What values of the program tell.
use Rattle.std.specs.Prelude.{◌≡◌}
use Rattle.serde_json.specs.Data.{Data}
use Rattle.serde_json.specs.Written.{compact_text}
use Rattle.cad_runs.specs.Commands as command
use Rattle.cad_runs.specs.Commands.{account_made, result, failed, limit, bad, rejected, ill}
use Rattle.cad_run_outcomes.specs.Views.{IsReceipt}
use Rattle.cad_answers.specs.declared.reply.Reply.{Reply}
use Rattle.cad_answers.specs.declared.reply.Reply.TheVariants as reply

-- a reply is this one of the definition
abbrev pub Tells : Reply → command.Reply Data → Type 0
Tells (reply.Result text) a = (json : Data) × (a ≡ result json) × (text ≡ compact_text json)
Tells (reply.Account n) a = a ≡ account_made n.0
Tells (reply.Ran receipt) a = IsReceipt receipt a
Tells (reply.Failed n) a = a ≡ failed n
Tells reply.Limit a = a ≡ limit
Tells (reply.Bad n) a = a ≡ bad n
Tells (reply.Rejected r) a = a ≡ rejected r
Tells reply.IllTyped a = a ≡ ill
