use Rattle.std.proofs.Common.{◌∙◌, ap, sym, length}
use Rattle.std.specs.Prelude.{◌==◌}
use Rattle.cad_installations.proofs.Coming.{counted_types}
use Rattle.cad_rows.specs.Views.{pure_row}
use Rattle.cad_world.specs.Rows.{count_places}
use Rattle.cad_installations.proofs.fitting.are_as_many.Goals as goal

pub returns : goal.returns
returns c = ap (λ n. n == length c.args.parameters.now) c.count_places.ensures ∙ ap (λ m. count_places (pure_row c.args.row.now) == m) (sym (counted_types c.args.parameters.now))
