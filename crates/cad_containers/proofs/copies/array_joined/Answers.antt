use Rattle.std.proofs.Common.{◌∙◌, sym}
use Rattle.cad_rows.specs.Views.{pure_row}
use Rattle.cad_syntax.specs.Types.{pure_type}
use Rattle.cad_world.specs.Rows.{join}
use Rattle.cad_containers.proofs.Rows.{not_copied}
use Rattle.cad_containers.proofs.copies.array_joined.Goals as goal

pub returns-then-one_owns : goal.returns-then-one_owns
returns-then-one_owns c = λ s. not_copied (pure_type c.args.element.now) (join (pure_row c.args.parts.now) (pure_row c.args.more.now)) s (sym c.one_owns.ensures ∙ c.if-one_owns.true)

pub returns : goal.returns
returns c = c.array_from.ensures (join (pure_row c.args.parts.now) (pure_row c.args.more.now)) (sym c.one_owns.ensures ∙ c.if-one_owns.false) c.joined.ensures
