use Rattle.std.proofs.Common.{◌≢◌, map, refl, sym, ap, ◌∙◌}
use Rattle.serde_json.specs.Data.{Data}
use Rattle.serde_json.specs.View.{view}
use Rattle.cad_declarations.specs.declared.program.Checked.{Checked}
use Rattle.cad_runs.specs.Commands.{Reply, failed, bad, main_of}
use Rattle.cad_state.specs.Views.{program_of}
use Rattle.cad_replies.specs.Scripts.{Answers, no_main}
use Rattle.cad_run_worlds.specs.Views.{Tells}
use Rattle.cad_replies.proofs.ScriptTold.{refused_with}
use Rattle.cad_replies.proofs.script.answer_named.Goals as goal

pub returns-in-Some : goal.returns-in-Some
returns-in-Some g c = λ w over kept. c.answer_main.ensures w over kept (ap (λ (x : Checked). main_of (program_of x)) (sym c.deref.ensures) ∙ sym (c.in-Some.ensures c.requires.named))

pub returns-in-None : goal.returns-in-None
returns-in-None g c =
    λ w over kept. refused_with (λ it. (reply : Reply Data) × Answers (g.E.FrontEnd.front c.args.end.now) w (program_of c.args.checked.now.value) (map view c.args.arguments.now) c.args.limit reply × (reply ≢ failed 0) × Tells it reply) c.refuse.result _ c.refuse.ensures
    (bad 26, no_main (ap (λ (x : Checked). main_of (program_of x)) (sym c.deref.ensures) ∙ sym (c.in-None.ensures c.requires.named)), λ e. cc e, refl)
