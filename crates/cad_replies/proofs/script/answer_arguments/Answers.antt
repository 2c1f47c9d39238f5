use Rattle.std.proofs.Common.{◌≢◌, map, refl}
use Rattle.serde_json.specs.Data.{Data}
use Rattle.serde_json.specs.View.{view}
use Rattle.cad_declarations.specs.Views.{function_of}
use Rattle.cad_rows.specs.Views.{pure_row}
use Rattle.cad_runs.specs.Commands.{Reply, failed, bad}
use Rattle.cad_state.specs.Views.{program_of}
use Rattle.cad_replies.specs.Scripts.{Answers, unfit}
use Rattle.cad_run_worlds.specs.Views.{Tells}
use Rattle.cad_run_worlds.proofs.ArgumentLaws.{row_found, row_missing, distinct_of, counts_agree}
use Rattle.cad_replies.proofs.ScriptTold.{refused_with, ran_answers}
use Rattle.cad_replies.proofs.script.answer_arguments.Goals as goal

pub returns-in-Ok-Some : goal.returns-in-Ok-Some
returns-in-Ok-Some g c =
    λ w over kept is. ran_answers (g.E.FrontEnd.front c.args.end.now) w (program_of c.args.checked.now.value) (map view c.args.arguments.now) c.args.limit (function_of c.args.main.now) (pure_row c.in-Ok-Some.row.items) c.answer_row.result is
    (distinct_of c.deref.result.now c.args.checked.now.value c.deref.ensures c.in-Ok-Some.ensures.distinct)
    (row_found c.deref.result.now c.args.checked.now.value c.args.main.now.parameters.items c.as_slice.result.now (map view c.args.arguments.now) c.in-Ok-Some.field-0 c.in-Ok-Some.row c.deref.ensures c.as_slice.ensures.value c.in-Ok-Some.field-0-is c.in-Ok-Some.ensures.row)
    (c.answer_row.ensures w over kept)

pub returns-in-Ok-None : goal.returns-in-Ok-None
returns-in-Ok-None g c =
    λ w over kept is. refused_with (λ it. (reply : Reply Data) × Answers (g.E.FrontEnd.front c.args.end.now) w (program_of c.args.checked.now.value) (map view c.args.arguments.now) c.args.limit reply × (reply ≢ failed 0) × Tells it reply) c.refuse.result _ c.refuse.ensures (
      bad 24,
      unfit is (counts_agree c.args.arguments.now c.args.main.now.parameters.items c.requires.counted)
          (row_missing c.deref.result.now c.args.checked.now.value c.args.main.now.parameters.items c.as_slice.result.now (map view c.args.arguments.now) c.in-Ok-None.field-0 c.deref.ensures c.as_slice.ensures.value c.in-Ok-None.field-0-is c.in-Ok-None.ensures.row),
      λ e. cc e,
      refl,
    )
