use Rattle.std.proofs.Common.{◌∙◌, sym}
use Rattle.cad_evaluation.specs.Containers.{turned}
use Rattle.cad_rows.specs.Views.{pure_row}
use Rattle.cad_syntax.specs.Types.{pure_type}
use Rattle.cad_world.specs.Rows.{stop}
use Rattle.cad_containers.proofs.Rows.{owns_turned, not_copied}
use Rattle.cad_containers.proofs.copies.array_reverse.Goals as goal

pub returns-then-row_owns : goal.returns-then-row_owns
returns-then-row_owns c = λ s.
    let row = pure_row c.args.parts.now in
    not_copied (pure_type c.args.element.now) (turned row stop) s (owns_turned row ∙ sym c.row_owns.ensures ∙ c.if-row_owns.true)

pub returns : goal.returns
returns c =
    let row = pure_row c.args.parts.now in
    c.array_from.ensures (turned row stop) (owns_turned row ∙ sym c.row_owns.ensures ∙ c.if-row_owns.false) c.reversed.ensures
