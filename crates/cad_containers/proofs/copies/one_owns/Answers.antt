use Rattle.std.proofs.Common.{◌∙◌, sym}
use Rattle.cad_rows.specs.Views.{pure_row}
use Rattle.cad_containers.proofs.Rows.{first_owns, second_owns}
use Rattle.cad_containers.proofs.copies.one_owns.Goals as goal

pub returns-then-row_owns : goal.returns-then-row_owns
returns-then-row_owns c = first_owns (pure_row c.args.parts.now) (pure_row c.args.more.now) (sym c.row_owns.ensures ∙ c.if-row_owns.true)

pub returns : goal.returns
returns c = second_owns (pure_row c.args.parts.now) (pure_row c.args.more.now) c.row_owns-2.result (sym c.row_owns.ensures ∙ c.if-row_owns.false) c.row_owns-2.ensures
