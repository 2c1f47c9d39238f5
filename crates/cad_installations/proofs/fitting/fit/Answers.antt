use Rattle.std.proofs.Common.{◌∙◌, ap, sym, length}
use Rattle.std.specs.Prelude.{◌==◌}
use Rattle.cad_installations.proofs.Coming.{as_many, not_as_many}
use Rattle.cad_installations.specs.Views.{types_of}
use Rattle.cad_rows.specs.Views.{pure_row}
use Rattle.cad_types.specs.Views.{declarations}
use Rattle.cad_world.specs.Rows.{count_places}
use Rattle.cad_installations.proofs.fitting.fit.Goals as goal

pub returns-then-are_as_many : goal.returns-then-are_as_many
returns-then-are_as_many c =
    as_many (declarations c.args.kinds.now) (types_of c.args.parameters.now) (pure_row c.args.row.items) c.args.state.now c.fit_all.new.state c.fit_all.result
    (ap (λ l. count_places (pure_row l) == length (types_of c.args.parameters.now)) (sym c.as_slice.ensures.value) ∙ sym c.are_as_many.ensures ∙ c.if-are_as_many.true) c.fit_all.ensures

pub returns : goal.returns
returns c =
    not_as_many (declarations c.args.kinds.now) (types_of c.args.parameters.now) (pure_row c.args.row.items) c.args.state.now c.args.state.now
    (ap (λ l. count_places (pure_row l) == length (types_of c.args.parameters.now)) (sym c.as_slice.ensures.value) ∙ sym c.are_as_many.ensures ∙ c.if-are_as_many.false)
