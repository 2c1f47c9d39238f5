use Rattle.std.proofs.Common.{◌∙◌, ap, sym}
use Rattle.cad_calls.proofs.Unnamed.{has_none}
use Rattle.cad_calls.specs.Unnamed.{unnamed}
use Rattle.cad_rows.specs.Views.{pure_row}
use Rattle.cad_command_runs.proofs.stages.run_transaction.Goals as goal

pub returns-then-is_unnamed : goal.returns-then-is_unnamed
returns-then-is_unnamed g c =
    c.run_stages.ensures (has_none (pure_row c.args.arguments.items) (ap (λ l. unnamed (pure_row l)) (sym c.as_slice.ensures.value) ∙ sym c.is_unnamed.ensures ∙ c.if-is_unnamed.true))
