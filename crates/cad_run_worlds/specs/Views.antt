-- What a `ScriptReply` tells.
use Rattle.std.specs.Prelude.{◌≡◌}
use Rattle.serde_json.specs.Data.{Data}
use Rattle.serde_json.specs.Written.{compact_text}
use Rattle.cad_runs.specs.Commands.{Reply, result, failed, limit, bad, ill}
use Rattle.cad_run_worlds.specs.declared.reply.ScriptReply.{ScriptReply}
use Rattle.cad_run_worlds.specs.declared.reply.ScriptReply.TheVariants as script

-- a result by its compact text, refusals and errors by their numbers
abbrev pub Tells : ScriptReply → Reply Data → Type 0
Tells (script.Result text) (result json) = text ≡ compact_text json
Tells (script.Failed n) (failed m) = n ≡ m
Tells script.Limit limit = Unit {0}
Tells (script.Bad n) (bad m) = n ≡ m
Tells script.IllTyped ill = Unit {0}
Tells _ _ = ⊥
