use Rattle.std.proofs.Common.{◌≢◌, map, arith, refl}
use Rattle.serde_json.specs.Data.{Data}
use Rattle.serde_json.specs.View.{view}
use Rattle.cad_runs.specs.Commands.{Reply, failed, bad}
use Rattle.cad_state.specs.Views.{program_of}
use Rattle.cad_replies.specs.Scripts.{Answers, miscounted}
use Rattle.cad_run_worlds.specs.Views.{Tells}
use Rattle.cad_run_worlds.proofs.ArgumentLaws.{counts_differ}
use Rattle.cad_replies.proofs.ScriptTold.{refused_with}
use Rattle.cad_replies.proofs.script.answer_main.Goals as goal

pub returns-then-arguments-len : goal.returns-then-arguments-len
returns-then-arguments-len g c =
    λ w over kept is. refused_with (λ it. (reply : Reply Data) × Answers (g.E.FrontEnd.front c.args.end.now) w (program_of c.args.checked.now.value) (map view c.args.arguments.now) c.args.limit reply × (reply ≢ failed 0) × Tells it reply) c.refuse.result _ c.refuse.ensures
    (bad 25, miscounted is (counts_differ c.args.arguments.now c.args.main.now.parameters.items (λ e. omega (arith, e, c.args.main.now.parameters.ok.0, c.len.ensures))), λ e. cc e, refl)

pub answer_arguments-requires-clause-counted : goal.answer_arguments-requires-clause-counted
answer_arguments-requires-clause-counted g c = omega (arith, c.args.main.now.parameters.ok.0, c.len.ensures)
