use Rattle.std.proofs.Common.{sym, ◌∙◌}
use Rattle.cad_operators.proofs.SameLaws.{differ_is}
use Rattle.cad_operators.proofs.sameness.differ.Goals as goal

pub returns-then-are_full-2 : goal.returns-then-are_full-2
returns-then-are_full-2 c =
    differ_is c.args.a.now c.args.b.now (sym c.are_full.ensures ∙ c.if-are_full.true) (sym c.are_full-then-are_full.ensures ∙ c.if-are_full-2.true) c.requires
