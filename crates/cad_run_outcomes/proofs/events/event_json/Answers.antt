use Rattle.std.proofs.Common.{ap, ◌∙◌, Ok}
use Rattle.cad_types.specs.Views.{declarations}
use Rattle.cad_values.specs.Values.{pure_value}
use Rattle.cad_run_outcomes.proofs.Listing.{exported}
use Rattle.cad_run_outcomes.proofs.events.event_json.Goals as goal

pub returns-in-Ok-Some : goal.returns-in-Ok-Some
returns-in-Ok-Some c =
    exported (declarations c.args.types.now) (pure_value c.args.event.now) c.export.result c.in-Ok-Some.text c.export.ensures.some c.export.ensures.none (c.in-Ok-Some.is ∙ ap Ok c.in-Ok-Some.field-0-is)
